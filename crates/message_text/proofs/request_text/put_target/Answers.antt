use Rattle.std.proofs.Common.{◌≡◌, ℕ, List, [], ◌∷◌, ◌++◌, append_assoc}
use Rattle.std.specs.Prelude.{codes}
use Rattle.message_text.specs.Lines.{address_part}
use Rattle.message_text.proofs.request_text.put_target.Goals as goal

-- parts that are added one after another
three-parts : (old one two three a b c : List ℕ) → one ≡ old ++ a → two ≡ one ++ b → three ≡ two ++ c → three ≡ old ++ (a ++ (b ++ c))
three-parts old one two three a b c e f g = rw (g, f, e) (simp append_assoc)

pub returns-clause-ok : goal.returns-clause-ok
returns-clause-ok c = three-parts c.args.into.now _ _ _ (codes "invocation ") (address_part c.args.target.now) (10 ∷ []) c.in_ok-append.ensures.ok c.in_ok-put_optional_address.ensures.ok c.in_ok-push.ensures.ok
