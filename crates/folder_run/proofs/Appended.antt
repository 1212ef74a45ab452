-- Parts that are added one after another.
use Rattle.std.proofs.Common.{◌≡◌, ℕ, List, ◌++◌, append_assoc}

pub three-parts : (old one two three a b c : List ℕ) → one ≡ old ++ a → two ≡ one ++ b → three ≡ two ++ c → three ≡ old ++ (a ++ (b ++ c))
three-parts old one two three a b c e f g = rw (g, f, e) (simp append_assoc)

pub four-parts : (old one two three four a b c d : List ℕ) → one ≡ old ++ a → two ≡ one ++ b → three ≡ two ++ c → four ≡ three ++ d → four ≡ old ++ (a ++ (b ++ (c ++ d)))
four-parts old one two three four a b c d e f g h = rw (h, g, f, e) (simp append_assoc)

pub five-parts : (old one two three four five a b c d e : List ℕ) → one ≡ old ++ a → two ≡ one ++ b → three ≡ two ++ c → four ≡ three ++ d → five ≡ four ++ e
    → five ≡ old ++ (a ++ (b ++ (c ++ (d ++ e))))
five-parts old one two three four five a b c d e f g h k l = rw (l, k, h, g, f) (simp append_assoc)
