-- What the chunks to come answer, from what the steps of a reader say.
use Rattle.std.proofs.Common.{◌≡◌, ℕ, ◌+◌, ◌≤◌, ◌<◌, List, [], length, drop, Option, Some, Ok, Err, sym, ap, ◌∙◌, subst, refl}
use Rattle.httparse.specs.declared.spans.HeaderSpan.{HeaderSpan}
use Rattle.sf_outside.specs.Left.{ahead}
use Rattle.endpoint_http.specs.Answers.{Answer, Told, Blames, Gives}
use Rattle.endpoint_http.specs.Chunks.{Announces, Fits, IsChunked, bad_line, cut_line, over, cut_data, bad_end, cut_end, next, bad_trailer, cut_trailer, last}
use Rattle.endpoint_http.specs.Parts.{Header, Begins}
use Rattle.endpoint_http.specs.Parsed.{size_of, headers_at, IsFound, PartFault, refused, cut}
use Rattle.endpoint_http.specs.Taking.{Takes, LineEnds, LineEndFault, other, cut as cut_line_end}
use Rattle.endpoint_http.specs.declared.fault.HttpFault.{HttpFault}
use Rattle.endpoint_http.specs.declared.fault.HttpFault.TheVariants.{OverLimit, Cut}
use Rattle.endpoint_http.specs.declared.part.Part.TheVariants.{ChunkLine, Trailer}
use Rattle.endpoint_http.specs.declared.part.Start.{Start}
use Rattle.endpoint_http.specs.declared.part.Start.TheVariants.{Size, Nothing}
use Rattle.endpoint_http.specs.declared.part.Found.{Found}
use Rattle.endpoint_http.proofs.Telling.{told-weaker, blames-weaker, gives-weaker}
use Rattle.endpoint_http.proofs.Tellings.{tell, told_at, behind, begins_told}

-- the answer from here is the answer from the start
abbrev pub Leads : ℕ → List ℕ → Option (List ℕ) → Option (List ℕ) → Type 0
Leads limit got start here =
    (bytes : List ℕ) → start ≡ Some bytes → (now : List ℕ) × (here ≡ Some now) × ((answer : Answer) → IsChunked limit got now answer → IsChunked limit [] bytes answer)

pub from_here : (limit : ℕ) (got : List ℕ) (start here : Option (List ℕ)) (r : Answer)
    → Leads limit got start here → Told here (λ bytes. Gives (IsChunked limit got bytes) r) → Told start (λ bytes. Gives (IsChunked limit [] bytes) r)
from_here limit got start here r leads h = tell start (λ bytes. Gives (IsChunked limit [] bytes) r) (λ bytes told.
    let at = leads bytes told in
    gives-weaker (IsChunked limit got at.0) (IsChunked limit [] bytes) at.2 r (told_at here (λ bytes. Gives (IsChunked limit got bytes) r) at.0 at.1 h))

-- ---- the line

line_fault : (limit : ℕ) (got bytes : List ℕ) (e : HttpFault) → PartFault ChunkLine bytes e → IsChunked limit got bytes (Err e)
line_fault limit got bytes e (refused h) = bad_line got bytes h
line_fault limit got bytes e (cut h) = cut_line got bytes h

pub line_refused : (limit : ℕ) (got : List ℕ) (here : Option (List ℕ)) (e : HttpFault) → Told here (λ bytes. Blames (PartFault ChunkLine bytes) e)
    → Told here (λ bytes. Gives (IsChunked limit got bytes) (Err e))
line_refused limit got here e h = told-weaker here _ (λ bytes. Gives (IsChunked limit got bytes) (Err e))
    (λ bytes. blames-weaker (PartFault ChunkLine bytes) (λ e. IsChunked limit got bytes (Err e)) (line_fault limit got bytes) e) h

announces : (bytes : List ℕ) (start : Start) (headers : List Header) (rest : List ℕ) → Begins ChunkLine bytes start headers rest → Announces bytes (size_of start) rest
announces bytes start headers rest b =
    let is : start ≡ Size (size_of start) = b.is_part.3 ∙ ap Size (sym (ap size_of b.is_part.3)) in
    subst (λ (s : Start). Begins ChunkLine bytes s [] rest) is (subst (λ (hs : List Header). Begins ChunkLine bytes start hs rest) b.is_part.4 b)

-- a chunk line stands in front, and these are behind it
abbrev pub LineTaken : Option (List ℕ) → ℕ → Option (List ℕ) → Type 0
LineTaken here size after = (bytes : List ℕ) → here ≡ Some bytes → (rest : List ℕ) × (after ≡ Some rest) × Announces bytes size rest

pub line_taken : (held : List ℕ) (spans : List HeaderSpan) (found : Found) (left here : Option (List ℕ)) → length held ≤ 16384 → IsFound ChunkLine held spans found
    → ahead held left ≡ here → LineTaken here (size_of found.start) (ahead (drop found.len held) left)
line_taken held spans found left here short is known = λ bytes told.
    let all : ahead held left ≡ Some bytes = known ∙ told in (
      drop found.len bytes,
      behind held left bytes found.len is.in_bytes all,
      announces bytes found.start (headers_at held spans found.headers) (drop found.len bytes) (begins_told ChunkLine held left bytes spans found short is all),
    )

-- the same of the bytes that are held when it was taken
pub line_held : (held now : List ℕ) (spans : List HeaderSpan) (found : Found) (left here : Option (List ℕ)) (size : ℕ) → length held ≤ 16384 → IsFound ChunkLine held spans found
    → ahead held left ≡ here → size ≡ size_of found.start → now ≡ drop found.len held → LineTaken here size (ahead now left)
line_held held now spans found left here size short is known size_is now_is =
    subst (λ n. LineTaken here n (ahead now left)) (sym size_is)
    (subst (λ (bs : List ℕ). LineTaken here (size_of found.start) (ahead bs left)) (sym now_is) (line_taken held spans found left here short is known))

-- ---- the trailer

zero_line : (bytes rest : List ℕ) (size : ℕ) → size ≡ 0 → Announces bytes size rest → Announces bytes 0 rest
zero_line bytes rest size zero h = subst (λ n. Announces bytes n rest) zero h

trailer_fault : (limit : ℕ) (got bytes rest : List ℕ) → Announces bytes 0 rest → (e : HttpFault) → PartFault Trailer rest e → IsChunked limit got bytes (Err e)
trailer_fault limit got bytes rest line e (refused h) = bad_trailer got bytes rest line h
trailer_fault limit got bytes rest line e (cut h) = cut_trailer got bytes rest line h

pub trailer_refused : (limit : ℕ) (got : List ℕ) (here after : Option (List ℕ)) (size : ℕ) (e : HttpFault) → LineTaken here size after → size ≡ 0
    → Told after (λ bytes. Blames (PartFault Trailer bytes) e) → Told here (λ bytes. Gives (IsChunked limit got bytes) (Err e))
trailer_refused limit got here after size e taken zero h = tell here (λ bytes. Gives (IsChunked limit got bytes) (Err e)) (λ bytes told.
    let at = taken bytes told in
    blames-weaker (PartFault Trailer at.0) (λ e. IsChunked limit got bytes (Err e)) (trailer_fault limit got bytes at.0 (zero_line bytes at.0 size zero at.2)) e
    (told_at after (λ bytes. Blames (PartFault Trailer bytes) e) at.0 at.1 h))

ends_chunks : (bytes : List ℕ) (start : Start) (headers : List Header) (rest : List ℕ) → Begins Trailer bytes start headers rest → Begins Trailer bytes Nothing headers rest
ends_chunks bytes start headers rest b = subst (λ (s : Start). Begins Trailer bytes s headers rest) b.is_part.4 b

pub trailer_read : (limit : ℕ) (got : List ℕ) (here after : Option (List ℕ)) (size : ℕ) (held : List ℕ) (spans : List HeaderSpan) (found : Found) (left : Option (List ℕ))
    → LineTaken here size after → size ≡ 0 → length held ≤ 16384 → IsFound Trailer held spans found → ahead held left ≡ after
    → Told here (λ bytes. Gives (IsChunked limit got bytes) (Ok got))
trailer_read limit got here after size held spans found left taken zero short is known = tell here (λ bytes. Gives (IsChunked limit got bytes) (Ok got)) (λ bytes told.
    let at = taken bytes told in
    last got bytes at.0 (drop found.len at.0) (headers_at held spans found.headers) (zero_line bytes at.0 size zero at.2)
    (ends_chunks at.0 found.start _ _ (begins_told Trailer held left at.0 spans found short is (known ∙ at.1))))

-- ---- the bytes of a chunk

pub past_limit : (limit : ℕ) (got : List ℕ) (here after : Option (List ℕ)) (size : ℕ) → LineTaken here size after → 0 < size → limit < length got + size
    → Told here (λ bytes. Gives (IsChunked limit got bytes) (Err OverLimit))
past_limit limit got here after size taken positive past = tell here (λ bytes. Gives (IsChunked limit got bytes) (Err OverLimit)) (λ bytes told.
    let at = taken bytes told in
    over got bytes at.0 size at.2 positive past)

fits : (limit : ℕ) (got bytes rest : List ℕ) (size : ℕ) → Announces bytes size rest → 0 < size → length got + size ≤ limit → Fits limit got bytes size rest
fits limit got bytes rest size line positive room = record { line = line; positive = positive; room = room }

pub data_cut : (limit : ℕ) (got : List ℕ) (here after : Option (List ℕ)) (size : ℕ) (e : HttpFault) → LineTaken here size after → 0 < size → length got + size ≤ limit
    → Told after (λ bytes. Blames (λ e. (e ≡ Cut) × (length bytes < size)) e) → Told here (λ bytes. Gives (IsChunked limit got bytes) (Err e))
data_cut limit got here after size e taken positive room h = tell here (λ bytes. Gives (IsChunked limit got bytes) (Err e)) (λ bytes told.
    let at = taken bytes told in
    blames-weaker (λ e. (e ≡ Cut) × (length at.0 < size)) (λ e. IsChunked limit got bytes (Err e))
    (λ e h. subst (λ (f : HttpFault). IsChunked limit got bytes (Err f)) (sym h.0) (cut_data got bytes at.0 size (fits limit got bytes at.0 size at.2 positive room) h.1)) e
    (told_at after (λ bytes. Blames (λ e. (e ≡ Cut) × (length bytes < size)) e) at.0 at.1 h))

-- ---- the end of its line

end_fault : (limit : ℕ) (got bytes rest now : List ℕ) (size : ℕ) → Fits limit got bytes size rest → size ≤ length rest → now ≡ drop size rest
    → (e : HttpFault) → LineEndFault now e → IsChunked limit got bytes (Err e)
end_fault limit got bytes rest now size fit enough is e (other h) = bad_end got bytes rest size fit enough (rw is at h)
end_fault limit got bytes rest now size fit enough is e (cut_line_end h) = cut_end got bytes rest size fit enough (rw is at h)

pub end_refused : (limit : ℕ) (got into : List ℕ) (here after third : Option (List ℕ)) (size : ℕ) (e : HttpFault) → LineTaken here size after → 0 < size → length got + size ≤ limit
    → Told after (λ bytes. Takes size got bytes into third) → Told third (λ bytes. Blames (LineEndFault bytes) e) → Told here (λ bytes. Gives (IsChunked limit got bytes) (Err e))
end_refused limit got into here after third size e taken positive room took h = tell here (λ bytes. Gives (IsChunked limit got bytes) (Err e)) (λ bytes told.
    let at = taken bytes told in
    let takes = told_at after (λ bytes. Takes size got bytes into third) at.0 at.1 took in
    blames-weaker (LineEndFault (drop size at.0)) (λ e. IsChunked limit got bytes (Err e))
    (end_fault limit got bytes at.0 (drop size at.0) size (fits limit got bytes at.0 size at.2 positive room) takes.enough refl) e
    (told_at third (λ bytes. Blames (LineEndFault bytes) e) (drop size at.0) takes.rest h))

pub goes_on : (limit : ℕ) (got into : List ℕ) (start here after third fourth : Option (List ℕ)) (size : ℕ) → Leads limit got start here → LineTaken here size after
    → 0 < size → length got + size ≤ limit → Told after (λ bytes. Takes size got bytes into third) → Told third (λ bytes. LineEnds bytes fourth) → Leads limit into start fourth
goes_on limit got into start here after third fourth size leads taken positive room took ends = λ bytes told.
    let from = leads bytes told in
    let at = taken from.0 from.1 in
    let takes = told_at after (λ bytes. Takes size got bytes into third) at.0 at.1 took in
    let end = told_at third (λ bytes. LineEnds bytes fourth) (drop size at.0) takes.rest ends in (
      end.0,
      end.2,
      λ answer is. from.2 answer (next got from.0 at.0 end.0 size answer (fits limit got from.0 at.0 size at.2 positive room) takes.enough end.1
          (subst (λ (bs : List ℕ). IsChunked limit bs end.0 answer) takes.taken is)),
    )
