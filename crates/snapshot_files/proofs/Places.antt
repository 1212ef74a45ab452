-- Where the blocks of a log stand, and which of them begins at a place.
use Rattle.std.proofs.Common.{◌≡◌, ◌≢◌, Equal, ℕ, zero, suc, ◌+◌, ◌<◌, ◌≤◌, List, [], ◌∷◌, ◌++◌, length, Contains, slice_index_or, Some, None, Result, Ok, Err, refl, sym, ◌∙◌, ap, subst, arith, true, false}
use Rattle.std.proofs.lemmas.Bool.{eq-eqb, ne_eqb}
use Rattle.std.proofs.lemmas.List.Sorted.{searched}
use Rattle.std.proofs.lemmas.Cmp.{ranked}
use Rattle.std.specs.List.{HoldsAt}
use Rattle.std.specs.List.Sorted.{IsBinarySearchResult, IsSearchInRange}
use Rattle.std.specs.Ordering.{nat_cmp}
use Rattle.std.specs.Result.{is_err, IfOk}
use Rattle.sf_disk.specs.Images.{FileState}
use Rattle.block_log.specs.declared.log.BlockLog.{BlockLog}
use Rattle.block_log.specs.Blocks.{Body, extent, places_from}
use Rattle.block_log.specs.Logs.{IsOpen, HasBlockAt}
use Rattle.block_log.proofs.Reading.{has_block}
use Rattle.folder_form.specs.Folders.{block_from, block_at}

-- ---- by number

length_places : (p : ℕ) (bodies : List Body) → length (places_from p bodies) ≡ length bodies
length_places p [] = refl
length_places p (x ∷ bodies) = ap suc (length_places (p + 9 + length x) bodies)

pub length_blocks : (log : BlockLog) (bodies : List Body) (state : FileState) → IsOpen log bodies state → length log.blocks ≡ length bodies
length_blocks log bodies state opened = ap length opened.knows.blocks ∙ length_places 0 bodies

place_at : (p : ℕ) (bodies : List Body) (k d : ℕ) → k < length bodies → (before : List Body) × (b : Body) × (behind : List Body) × (bodies ≡ before ++ b ∷ behind) × (length before ≡ k) × (slice_index_or (places_from p bodies) k d ≡ p + extent before)
place_at p [] k d less = absurd (omega (arith, less))
place_at p (x ∷ bodies) zero d less = ([], x, bodies, refl, refl, omega arith)
place_at p (x ∷ bodies) (suc k) d less =
    let r = place_at (p + 9 + length x) bodies k d (omega (arith, less)) in
    (x ∷ r.0, r.1, r.2, ap (λ (l : List Body). x ∷ l) r.3, omega (arith, r.4), omega (arith, r.5))

-- the block of that number, at its place
pub numbered : (log : BlockLog) (bodies : List Body) (state : FileState) (k d : ℕ) → IsOpen log bodies state → k < length log.blocks → (b : Body) × (at : HasBlockAt bodies (slice_index_or log.blocks k d) b) × (length at.before ≡ k)
numbered log bodies state k d opened less =
    let r = place_at 0 bodies k d (omega (arith, less, length_blocks log bodies state opened)) in
    (r.1, record { before = r.0; behind = r.2; is = r.3; place_is = omega (arith, ap (λ (l : List ℕ). slice_index_or l k d) opened.knows.blocks, r.5) }, r.4)

-- ---- by place

found_from : (at : ℕ) (before : List Body) (b : Body) (behind : List Body) (place : ℕ) → place ≡ at + extent before → block_from at place (before ++ b ∷ behind) ≡ Some b
found_from at [] b behind place is = rw (eq-eqb place at (omega (arith, is))) refl
found_from at (x ∷ before) b behind place is = rw (ne_eqb place at (λ same. omega (arith, is, same))) (found_from (at + 9 + length x) before b behind place (omega (arith, is)))

pub block_is : (bodies : List Body) (place : ℕ) (b : Body) → HasBlockAt bodies place b → block_at place bodies ≡ Some b
block_is bodies place b at = ap (block_at place) at.is ∙ found_from 0 at.before b at.behind place (omega (arith, at.place_is))

none_from : (at : ℕ) (bodies : List Body) (place : ℕ) → ((k : ℕ) → k < length (places_from at bodies) → slice_index_or (places_from at bodies) k 0 ≢ place) → block_from at place bodies ≡ None
none_from at [] place never = refl
none_from at (x ∷ bodies) place never = rw (ne_eqb place at (λ same. never 0 (omega arith) (sym same))) (none_from (at + 9 + length x) bodies place (λ k less is. never (suc k) (omega (arith, less)) is))

-- places rise
above : (p : ℕ) (bodies : List Body) (k : ℕ) → k < length (places_from p bodies) → p ≤ slice_index_or (places_from p bodies) k 0
above p [] k less = absurd (omega (arith, less))
above p (x ∷ bodies) zero less = omega arith
above p (x ∷ bodies) (suc k) less = omega (arith, above (p + 9 + length x) bodies k (omega (arith, less)))

rising : (p : ℕ) (bodies : List Body) (i j : ℕ) → i ≤ j → j < length (places_from p bodies) → slice_index_or (places_from p bodies) i 0 ≤ slice_index_or (places_from p bodies) j 0
rising p [] i j upto less = absurd (omega (arith, less))
rising p (x ∷ bodies) zero j upto less = above p (x ∷ bodies) j less
rising p (x ∷ bodies) (suc i) zero upto less = absurd (omega (arith, upto))
rising p (x ∷ bodies) (suc i) (suc j) upto less = rising (p + 9 + length x) bodies i j (omega (arith, upto)) (omega (arith, less))

-- ---- a search

-- what was not found is the place of no block
pub no_block : (log : BlockLog) (bodies : List Body) (state : FileState) (place : ℕ) (r : Result ℕ ℕ) → IsOpen log bodies state → is_err r ≡ true → IsBinarySearchResult (λ y. nat_cmp y place) log.blocks r → block_at place bodies ≡ None
no_block log bodies state place (Ok i) opened failed searched_for = absurd cc
no_block log bodies state place (Err i) opened failed searched_for =
    let found = searched (places_from 0 bodies) place (Err i) (subst (λ (l : List ℕ). IsBinarySearchResult (λ y. nat_cmp y place) l (Err i)) opened.knows.blocks searched_for) (rising 0 bodies) in
    none_from 0 bodies place (λ k less same. grind (arith, same, less, found.1 k, found.2 k))

-- what was found is among them
pub contained : (xs : List ℕ) (place : ℕ) (r : Result ℕ ℕ) → is_err r ≡ false → IsSearchInRange r (length xs) → IfOk r (HoldsAt (λ y. nat_cmp y place ≡ Equal) xs) → Contains xs place
contained xs place (Ok i) succeeded bound holds = (i, bound, ranked (slice_index_or xs i place) place Equal (sym (holds place)))
contained xs place (Err i) succeeded bound holds = absurd cc

-- a block that was read is the one that begins there
pub block_read : (log : BlockLog) (bodies : List Body) (state : FileState) (place : ℕ) (body : Body) → IsOpen log bodies state → Contains log.blocks place → ((stands : Body) → HasBlockAt bodies place stands → body ≡ stands) → Some body ≡ block_at place bodies
block_read log bodies state place body opened there read =
    let b = has_block log bodies state place opened there in
    ap (λ (x : Body). Some x) (read b.0 b.1) ∙ sym (block_is bodies place b.0 b.1)
