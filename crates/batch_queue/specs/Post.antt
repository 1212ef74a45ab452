-- What mail means, and what each call makes of it.
use Rattle.std.specs.Prelude.{◌≡◌, ℕ, Bool, false, not, ◌==◌, if◌then◌else◌, List, [], ◌∷◌, ◌++◌, drop, filter, map, IsSorted}
use Rattle.std.specs.Ordering.{nat_cmp}
use Rattle.std.specs.List.{list_any}
use Rattle.std.specs.Cmp.Lexicographic.{slice_cmp}
use Rattle.typed_values.specs.declared.address.Address.{Address}
use Rattle.typed_values.specs.declared.letter.Letter.{Letter}
use Rattle.typed_values.specs.Sameness.{same_address}
use Rattle.typed_values.specs.Spelling.{address_spelling}

pub record Post : Type 0 where
  -- the letters of an address in order of arrival, and how many of them, from the first on, are in flight
  pub letters : Address → List Letter
  pub in_flight : Address → ℕ
  -- the addresses that are ready, in the order in which they became so
  pub ready : List Address

abbrev pub no_post : Post
no_post = record { letters = λ address. []; in_flight = λ address. 0; ready = [] }

-- there are letters, and none is in flight
abbrev pub waits : List Letter → ℕ → Bool
waits [] in_flight = false
waits (letter ∷ letters) in_flight = in_flight == 0

abbrev pub is_ready : Post → Address → Bool
is_ready post address = waits (post.letters address) (post.in_flight address)

-- who becomes ready goes last, who is ready no more leaves, and all others keep their order
abbrev pub lined_up : {K : Type 0} → (K → K → Bool) → K → Bool → List K → List K
lined_up same who ready line =
    if ready then (if list_any (same who) line then line else line ++ who ∷ []) else filter (λ other. not (same who other)) line

-- an address has these letters now, so many of them in flight
abbrev pub with_letters : Address → List Letter → ℕ → Post → Post
with_letters address letters in_flight post = record {
  letters = λ other. if same_address address other then letters else post.letters other;
  in_flight = λ other. if same_address address other then in_flight else post.in_flight other;
  ready = lined_up same_address address (waits letters in_flight) post.ready;
}

-- a letter goes last among those of its target
abbrev pub put : Letter → Post → Post
put letter post = with_letters letter.target (post.letters letter.target ++ letter ∷ []) (post.in_flight letter.target) post

-- so many letters of an address are in flight
abbrev pub opened : Address → ℕ → Post → Post
opened address count post = with_letters address (post.letters address) count post

-- the letters in flight leave for good
abbrev pub taken : Address → Post → Post
taken address post = with_letters address (drop (post.in_flight address) (post.letters address)) 0 post

-- the letters in flight wait again
abbrev pub returned : Address → Post → Post
returned address post = with_letters address (post.letters address) 0 post

-- all letters: by address in byte order of its spelling, those of one address in order of arrival
pub record IsAll (post : Post) (all : List Letter) : Type 0 where
  pub of_each : (address : Address) → filter (λ letter. same_address address letter.target) all ≡ post.letters address
  pub in_order : IsSorted (slice_cmp nat_cmp) (map (λ letter. address_spelling letter.target) all)
