-- What a parse of the bytes held says of all the bytes to come.
use Rattle.std.proofs.Common.{◌≡◌, ℕ, ◌≤◌, ◌⊎◌, inl, inr, List, ◌++◌, length, take, drop, Option, Some, None, sym, ap, ◌∙◌, subst, arith, append_assoc, append-nil, length-append, length-take, take-append-drop}
use Rattle.httparse.specs.Spans.{header_bytes}
use Rattle.std.proofs.lemmas.List.{length-map}
use Rattle.std.proofs.lemmas.List.{take-append-le}
use Rattle.std.proofs.Math.Seq.{take-append_seam}
use Rattle.httparse.specs.declared.spans.HeaderSpan.{HeaderSpan}
use Rattle.sf_outside.specs.Left.{ahead, AtEnd}
use Rattle.endpoint_http.specs.Answers.{Told, Blames}
use Rattle.endpoint_http.specs.Parts.{Begins, HasNone, NeverBegins, HasTooManyLines, IsRefused, EndsInside}
use Rattle.endpoint_http.specs.Parsed.{headers_at, refusal_of, IsFound, PartFault, refused, cut}
use Rattle.endpoint_http.specs.declared.fault.HttpFault.{HttpFault}
use Rattle.endpoint_http.specs.declared.fault.HttpFault.TheVariants.{Cut}
use Rattle.endpoint_http.specs.declared.part.Part.{Part}
use Rattle.endpoint_http.specs.declared.part.Part.TheVariants.{Response, Request, ChunkLine, Trailer}
use Rattle.endpoint_http.specs.declared.part.Found.{Found}

-- what holds whatever comes behind the bytes held
pub told_by : (held : List ℕ) (left : Option (List ℕ)) (P : List ℕ → Type 0) → ((more : List ℕ) → P (held ++ more)) → Told (ahead held left) P
told_by held None P k = tt {0}
told_by held (Some more) P k = k more

-- what holds of the bytes held at the end of input
pub told_at_end : (held : List ℕ) (left : Option (List ℕ)) (P : List ℕ → Type 0) → AtEnd left → P held → Told (ahead held left) P
told_at_end held None P end k = tt {0}
told_at_end held (Some more) P end k = subst P (sym (ap (λ (bs : List ℕ). held ++ bs) end ∙ append-nil held)) k

pub begins : (part : Part) (held more : List ℕ) (spans : List HeaderSpan) (found : Found) → length held ≤ 16384 → IsFound part held spans found
    → Begins part (held ++ more) found.start (headers_at held spans found.headers) (drop found.len (held ++ more))
begins part held more spans found short is = record {
  text = take found.len held;
  bytes_are = sym (take-append-drop found.len (held ++ more)) ∙ ap (λ (bs : List ℕ). bs ++ drop found.len (held ++ more)) (take-append-le found.len held more is.in_bytes);
  is_part = is.is_part;
  in_bytes = omega (arith, length-take found.len held, short);
  in_lines = omega (arith, length-map (take found.headers spans) (header_bytes held), length-take found.headers spans, is.in_lines);
}

pub never : (part : Part) (held more : List ℕ) → NeverBegins part held → NeverBegins part (held ++ more)
never part held more h = λ then text rest start headers is. h (more ++ then) text rest start headers (sym (append_assoc held more then) ∙ is)

pub too_many : (part : Part) (held more : List ℕ) → HasTooManyLines part held → HasTooManyLines part (held ++ more)
too_many part held more h = (h.0, h.1 ++ more, h.2, h.3, ap (λ (bs : List ℕ). bs ++ more) h.4 ∙ append_assoc h.0 h.1 more, h.5, h.6)

pub refused_by : (part : Part) (held more : List ℕ) → NeverBegins part held ⊎ HasTooManyLines part held → IsRefused part (held ++ more)
refused_by part held more (inl h) = inl (never part held more h)
refused_by part held more (inr h) = inr (inr (too_many part held more h))

pub too_long : (part : Part) (held more : List ℕ) → length held ≡ 16384 → HasNone part held → IsRefused part (held ++ more)
too_long part held more full none =
    let front : take 16384 (held ++ more) ≡ held = ap (λ n. take n (held ++ more)) (sym full) ∙ take-append_seam held more in
    inr (inl (omega (arith, length-append held more, full), subst (λ bs. HasNone part bs) (sym front) none))

pub blames_refusal : (part : Part) (bytes : List ℕ) → IsRefused part bytes → Blames (PartFault part bytes) (refusal_of part)
blames_refusal Response bytes h = refused h
blames_refusal Request bytes h = refused h
blames_refusal ChunkLine bytes h = refused h
blames_refusal Trailer bytes h = refused h

-- the fault of bytes that begin with no such part
pub refusal_told : (part : Part) (held : List ℕ) (left told : Option (List ℕ)) (fault : HttpFault) → ahead held left ≡ told → fault ≡ refusal_of part
    → ((more : List ℕ) → IsRefused part (held ++ more)) → Told told (λ bytes. Blames (PartFault part bytes) fault)
refusal_told part held left told fault known is h =
    subst (λ (f : HttpFault). Told told (λ bytes. Blames (PartFault part bytes) f)) (sym is)
    (subst (λ (o : Option (List ℕ)). Told o (λ bytes. Blames (PartFault part bytes) (refusal_of part))) known
    (told_by held left (λ bytes. Blames (PartFault part bytes) (refusal_of part)) (λ more. blames_refusal part (held ++ more) (h more))))

-- that of bytes which end inside one
pub cut_told : (part : Part) (held : List ℕ) (left told : Option (List ℕ)) → ahead held left ≡ told → AtEnd left
    → EndsInside part held → Told told (λ bytes. Blames (PartFault part bytes) Cut)
cut_told part held left told known end h =
    subst (λ (o : Option (List ℕ)). Told o (λ bytes. Blames (PartFault part bytes) Cut)) known (told_at_end held left (λ bytes. Blames (PartFault part bytes) Cut) end (cut h))
