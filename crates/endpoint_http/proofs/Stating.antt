-- The length that header lines state, line by line.
use Rattle.std.proofs.Common.{◌≡◌, ℕ, ◌+◌, ◌<◌, ◌≤◌, List, [], ◌∷◌, length, map, take, drop, get_or, Bool, true, false, Option, Some, None, Result, Ok, Err, refl, sym, ap, ◌∙◌, subst, codes, add-one, if◌then◌else◌, ◌⊎◌, inl, inr, ◌==◌}
use Rattle.std.proofs.Math.Seq.{drop-cons}
use Rattle.std.proofs.lemmas.List.{drop_all}
use Rattle.httparse.specs.Spans.{header_bytes}
use Rattle.httparse.specs.declared.spans.HeaderSpan.{HeaderSpan}
use Rattle.endpoint_http.specs.Answers.{Answer, ReadCause}
use Rattle.endpoint_http.specs.Fields.{is_like, length_of, agreed, and_then, stated_length, has, each_is, framed_by, unless_compressed, framing_of}
use Rattle.endpoint_http.specs.Parts.{Header}
use Rattle.endpoint_http.specs.declared.fault.HttpFault.{HttpFault}
use Rattle.endpoint_http.specs.declared.fault.HttpFault.TheVariants.{Head, Compressed}
use Rattle.endpoint_http.specs.declared.fields.Framing.{Framing}

-- the line at this place, and those behind it
at : (buffer : List ℕ) (spans : List HeaderSpan) (index : ℕ) (d : HeaderSpan) → index < length spans
    → map (header_bytes buffer) (drop index spans) ≡ header_bytes buffer (get_or spans index d) ∷ map (header_bytes buffer) (drop (index + 1) spans)
at buffer spans index d within =
    ap (map (header_bytes buffer)) (drop-cons spans index d within)
    ∙ ap (λ n. header_bytes buffer (get_or spans index d) ∷ map (header_bytes buffer) (drop n spans)) (sym (add-one index))

states : (stated : Option ℕ) (h : Header) (headers : List Header) (b : Bool) (r : Result (Option ℕ) HttpFault) → is_like h.0 (codes "content-length") ≡ b → agreed (length_of h.1) stated ≡ r
    → stated_length stated (h ∷ headers) ≡ (if b then and_then r (λ now. stated_length now headers) else stated_length stated headers)
unfolding stated_length
states stated h headers b r like is = rw (like, is) refl

pub states_more : (buffer : List ℕ) (spans : List HeaderSpan) (index : ℕ) (d : HeaderSpan) (stated now : Option ℕ) → index < length spans
    → is_like (header_bytes buffer (get_or spans index d)).0 (codes "content-length") ≡ true → Ok now ≡ agreed (length_of (header_bytes buffer (get_or spans index d)).1) stated
    → stated_length now (map (header_bytes buffer) (drop (index + 1) spans)) ≡ stated_length stated (map (header_bytes buffer) (drop index spans))
states_more buffer spans index d stated now within like is =
    sym (ap (stated_length stated) (at buffer spans index d within) ∙ states stated (header_bytes buffer (get_or spans index d)) _ true (Ok now) like (sym is))

pub states_none : (buffer : List ℕ) (spans : List HeaderSpan) (index : ℕ) (d : HeaderSpan) (stated : Option ℕ) → index < length spans
    → is_like (header_bytes buffer (get_or spans index d)).0 (codes "content-length") ≡ false
    → stated_length stated (map (header_bytes buffer) (drop (index + 1) spans)) ≡ stated_length stated (map (header_bytes buffer) (drop index spans))
states_none buffer spans index d stated within like =
    sym (ap (stated_length stated) (at buffer spans index d within) ∙ states stated (header_bytes buffer (get_or spans index d)) _ false _ like refl)

pub states_wrong : (buffer : List ℕ) (spans : List HeaderSpan) (index : ℕ) (d : HeaderSpan) (stated : Option ℕ) (e : HttpFault) → index < length spans
    → is_like (header_bytes buffer (get_or spans index d)).0 (codes "content-length") ≡ true → Err e ≡ agreed (length_of (header_bytes buffer (get_or spans index d)).1) stated
    → Err e ≡ stated_length stated (map (header_bytes buffer) (drop index spans))
states_wrong buffer spans index d stated e within like is =
    sym (ap (stated_length stated) (at buffer spans index d within) ∙ states stated (header_bytes buffer (get_or spans index d)) _ true (Err e) like (sym is))

pub states_all : (buffer : List ℕ) (spans : List HeaderSpan) (index : ℕ) (stated : Option ℕ) → length spans ≤ index
    → Ok stated ≡ stated_length stated (map (header_bytes buffer) (drop index spans))
unfolding stated_length
states_all buffer spans index stated h = rw (drop_all index spans h) refl

-- ---- what is refused

agreed_fault : (one stated : Option ℕ) (e : HttpFault) → agreed one stated ≡ Err e → e ≡ Head
agreed_fault None stated e is = cc
agreed_fault (Some n) None e is = absurd cc
agreed_fault (Some n) (Some m) e is = by_same (n == m) is
  where
    by_same : (b : Bool) → (if b then Ok (Some m) else Err Head) ≡ Err e → e ≡ Head
    by_same true is = absurd cc
    by_same false is = cc

stated_fault : (headers : List Header) (stated : Option ℕ) (e : HttpFault) → stated_length stated headers ≡ Err e → e ≡ Head
unfolding stated_length
stated_fault [] stated e is = absurd cc
stated_fault (h ∷ headers) stated e is = by_line (is_like h.0 (codes "content-length")) (agreed (length_of h.1) stated) (agreed_fault (length_of h.1) stated e) (λ now. stated_fault headers now e) is
  where
    by_line : (b : Bool) (r : Result (Option ℕ) HttpFault) → (r ≡ Err e → e ≡ Head) → ((now : Option ℕ) → stated_length now headers ≡ Err e → e ≡ Head)
        → (if b then and_then r (λ now. stated_length now headers) else stated_length stated headers) ≡ Err e → e ≡ Head
    by_line true (Ok now) wrong more is = more now is
    by_line true (Err f) wrong more is = wrong is
    by_line false r wrong more is = more stated is

by_plain : (plain : Bool) (framing : Framing) (e : HttpFault) → Err e ≡ (if plain then Ok framing else Err Compressed) → (e ≡ Head) ⊎ (e ≡ Compressed)
by_plain true framing e is = absurd cc
by_plain false framing e is = inr cc

by_length : (headers : List Header) (r : Result (Option ℕ) HttpFault) (e : HttpFault) → (r ≡ Err e → e ≡ Head) → Err e ≡ unless_compressed headers r → (e ≡ Head) ⊎ (e ≡ Compressed)
by_length headers (Err f) e wrong is = inl (wrong (sym cc))
by_length headers (Ok now) e wrong is = by_plain (each_is (codes "content-encoding") (codes "identity") headers) (framed_by (has (codes "transfer-encoding") headers) now) e is

-- header lines are refused as a bad head or as a coding
pub framing_fault : (headers : List Header) (e : HttpFault) → Err e ≡ framing_of headers → (e ≡ Head) ⊎ (e ≡ Compressed)
framing_fault headers e is = by_chunked (each_is (codes "transfer-encoding") (codes "chunked") headers) is
  where
    by_chunked : (b : Bool) → Err e ≡ (if b then unless_compressed headers (stated_length None headers) else Err Head) → (e ≡ Head) ⊎ (e ≡ Compressed)
    by_chunked false is = inl cc
    by_chunked true is = by_length headers (stated_length None headers) e (stated_fault headers None e) is

cause_of : (before now : ℕ) (e : HttpFault) → (e ≡ Head) ⊎ (e ≡ Compressed) → now ≡ before → ReadCause {T = List ℕ} before now (Err e)
cause_of before now e (inl is) same = subst (λ (f : HttpFault). ReadCause {T = List ℕ} before now (Err f)) (sym is) same
cause_of before now e (inr is) same = subst (λ (f : HttpFault). ReadCause {T = List ℕ} before now (Err f)) (sym is) same

pub framing_cause : (before now : ℕ) (r : Answer) (e : HttpFault) (headers : List Header) → (y : HttpFault) × (r ≡ Err y) × (y ≡ e) → Err e ≡ framing_of headers → now ≡ before
    → ReadCause before now r
framing_cause before now r e headers p is same = subst (λ (a : Answer). ReadCause before now a) (sym (p.1 ∙ ap Err p.2)) (cause_of before now e (framing_fault headers e is) same)

-- the header lines that the spans cover in the bytes held
pub framing_held : (held bytes : List ℕ) (spans front : List HeaderSpan) (count : ℕ) (r : Result Framing HttpFault) → bytes ≡ held → front ≡ take count spans
    → r ≡ framing_of (map (header_bytes bytes) front) → r ≡ framing_of (map (header_bytes held) (take count spans))
framing_held held bytes spans front count r bytes_are front_is is =
    is ∙ ap (λ bs. framing_of (map (header_bytes bs) front)) bytes_are ∙ ap (λ ss. framing_of (map (header_bytes held) ss)) front_is
