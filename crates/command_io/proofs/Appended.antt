-- Parts that are added one after another.
use Rattle.std.proofs.Common.{◌≡◌, ℕ, List, [], ◌++◌, append_assoc}

pub five-parts : (old one two three four five a b c d e : List ℕ) → old ≡ [] → one ≡ old ++ a → two ≡ one ++ b → three ≡ two ++ c → four ≡ three ++ d → five ≡ four ++ e
    → five ≡ a ++ (b ++ (c ++ (d ++ e)))
five-parts old one two three four five a b c d e z f g h k l = rw (l, k, h, g, f, z) (simp append_assoc)
