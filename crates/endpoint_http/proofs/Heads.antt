-- What a parse of a head, a chunk line or a trailer section says in the words of parts.
use Rattle.std.proofs.Common.{ℕ, ◌<◌, inl, inr, List, [], ◌++◌, map, refl, sym, ap, ◌∙◌, subst, append-nil}
use Rattle.std.proofs.lemmas.List.{length-map}
use Rattle.httparse.specs.Grammar.{lf, HasNoSection, NeverHasSection, MayBecomeSection, chunk_size, HasNoChunkLine, NeverHasChunkLine, MayBecomeChunkLine, HasNoRequest, NeverHasRequest, MayBecomeRequest, HasNoResponse, NeverHasResponse, MayBecomeResponse, status_code, print_section, print_chunk_line, print_request, print_response}
use Rattle.httparse.specs.Spans.{name_and_value, SectionExceeds, RequestExceeds, ResponseExceeds}
use Rattle.endpoint_http.specs.Parts.{started_by, HasNone, NeverBegins, HasTooManyLines, MayBecome}
use Rattle.endpoint_http.specs.declared.part.Part.TheVariants.{Response, Request, ChunkLine as Line, Trailer}
use Rattle.endpoint_http.specs.declared.part.Start.TheVariants.{Status, Size, Nothing}

-- ---- responses

pub no_response : (bytes : List ℕ) → HasNoResponse bytes → HasNone Response bytes
no_response bytes h = λ text rest start headers is part. h part.0 rest (part.1, is ∙ ap (λ (bs : List ℕ). bs ++ rest) part.2)

pub may_response : (bytes : List ℕ) → MayBecomeResponse bytes → MayBecome Response bytes
may_response bytes h = inl (h.0, Status (status_code h.1), map name_and_value h.1.fields, (h.1, h.2.0, h.2.1 ∙ append-nil (print_response h.1), refl, refl))

pub never_response : (bytes : List ℕ) → NeverHasResponse bytes → NeverBegins Response bytes
never_response bytes h = λ more. no_response (bytes ++ more) (h more)

pub too_long_response : (bytes : List ℕ) → ResponseExceeds 64 bytes → HasTooManyLines Response bytes
too_long_response bytes h = (
  h.0,
  h.1,
  Status (status_code h.3),
  map name_and_value h.3.fields,
  h.2,
  (h.3, h.4.0, h.4.1 ∙ append-nil (print_response h.3), refl, refl),
  subst (λ n. 64 < n) (sym (length-map h.3.fields name_and_value)) h.5,
)

-- ---- requests

pub no_request : (bytes : List ℕ) → HasNoRequest bytes → HasNone Request bytes
no_request bytes h = λ text rest start headers is part. h part.0 rest (part.1, is ∙ ap (λ (bs : List ℕ). bs ++ rest) part.2)

pub may_request : (bytes : List ℕ) → MayBecomeRequest bytes → MayBecome Request bytes
may_request bytes (inl h) = inl (h.0, started_by h.1.method, map name_and_value h.1.fields, (h.1, h.2.0, h.2.1 ∙ append-nil (print_request h.1), refl, refl))
may_request bytes (inr h) = inr h

pub never_request : (bytes : List ℕ) → NeverHasRequest bytes → NeverBegins Request bytes
never_request bytes h = λ more. no_request (bytes ++ more) (h more)

pub too_long_request : (bytes : List ℕ) → RequestExceeds 64 bytes → HasTooManyLines Request bytes
too_long_request bytes h = (
  h.0,
  h.1,
  started_by h.3.method,
  map name_and_value h.3.fields,
  h.2,
  (h.3, h.4.0, h.4.1 ∙ append-nil (print_request h.3), refl, refl),
  subst (λ n. 64 < n) (sym (length-map h.3.fields name_and_value)) h.5,
)

-- ---- chunk lines

pub no_line : (bytes : List ℕ) → HasNoChunkLine bytes → HasNone Line bytes
no_line bytes h = λ text rest start headers is part. h part.0 rest (part.1, is ∙ ap (λ (bs : List ℕ). bs ++ rest) part.2)

pub may_line : (bytes : List ℕ) → MayBecomeChunkLine bytes → MayBecome Line bytes
may_line bytes h = inl (h.0, Size (chunk_size h.1), [], (h.1, h.2.0, h.2.1 ∙ append-nil (print_chunk_line h.1), refl, refl))

pub never_line : (bytes : List ℕ) → NeverHasChunkLine bytes → NeverBegins Line bytes
never_line bytes h = λ more. no_line (bytes ++ more) (h more)

-- ---- trailers

pub no_trailer : (bytes : List ℕ) → HasNoSection bytes → HasNone Trailer bytes
no_trailer bytes h = λ text rest start headers is part. h part.0 part.1 rest (part.2, is ∙ ap (λ (bs : List ℕ). bs ++ rest) part.3)

pub may_trailer : (bytes : List ℕ) → MayBecomeSection bytes → MayBecome Trailer bytes
may_trailer bytes h = inl (h.0, Nothing, map name_and_value h.1, (h.1, h.2, h.3.0, h.3.1 ∙ append-nil (print_section h.1 h.2), refl, refl))

pub never_trailer : (bytes : List ℕ) → NeverHasSection bytes → NeverBegins Trailer bytes
never_trailer bytes h = λ more. no_trailer (bytes ++ more) (h more)

pub too_long_trailer : (bytes : List ℕ) → SectionExceeds 64 bytes → HasTooManyLines Trailer bytes
too_long_trailer bytes h = (
  h.0,
  h.1,
  Nothing,
  map name_and_value h.3,
  h.2,
  (h.3, lf, h.4.0, h.4.1 ∙ append-nil (print_section h.3 lf), refl, refl),
  subst (λ n. 64 < n) (sym (length-map h.3 name_and_value)) h.5,
)
