-- What is heard in one more read; runs of `decode` on right words.
use Rattle.std.proofs.Common.{◌≡◌, ◌≢◌, inl, inr, ℕ, ◌+◌, List, [], ◌∷◌, ◌++◌, length, take, drop, refl, sym, ap, ◌∙◌, subst, arith, codes, Option, Some, None}
use Rattle.std.specs.Prelude.{Result, Ok, Err}
use Rattle.std.specs.Borrow.{Bor}
use Rattle.std.proofs.Math.Seq.{take-add, drop-append_seam}
use Rattle.clap.specs.Words.{IsAmong, fault_of, one_of, matches_of}
use Rattle.clap.specs.declared.error.kind.ErrorKind.{ErrorKind}
use Rattle.clap.specs.declared.error.kind.ErrorKind.TheVariants.{DisplayHelp}
use Rattle.proto_wire.specs.declared.fault.WireFault.{WireFault}
use Rattle.sf_outside.specs.declared.fault.Fault.{Fault}
use Rattle.sf_outside.specs.declared.fault.Fault.TheVariants.{Failed, OutOfMemory}
use Rattle.sf_outside.specs.Told.{HasCause, Rose, more-nil}
use Rattle.sf_outside.specs.Left.{ahead, ahead-nil, ahead-ahead}
use Rattle.statefun_cli.specs.declared.decode_words.MessageKind.{MessageKind}
use Rattle.statefun_cli.specs.declared.decode_words.MessageKind.TheVariants.{Request, Answer}
use Rattle.statefun_cli.specs.declared.decode_words.DecodeAsk.{DecodeAsk}
use Rattle.statefun_cli.specs.declared.decode_words.DecodeAsk.TheVariants.{Lines, Help as HelpAsked, Usage as UsageAsked}
use Rattle.statefun_cli.specs.declared.decode.DecodeEnd.{DecodeEnd}
use Rattle.statefun_cli.specs.declared.decode.DecodeEnd.TheVariants.{Decoded, Faulty, Help, Usage, ReadFault}
use Rattle.statefun_cli.specs.Kinds.{word_of}
use Rattle.statefun_cli.specs.DecodeWords.{IsRefused, decode_app}
use Rattle.statefun_cli.specs.Decode.{AsksForHelp, IsAnswered, IsAsked, IsAskedRun, IsDecoded, IsHelpRun, IsRightRun, decode_status, end_by, help_text, lines_of, reader}
use Rattle.statefun_cli.specs.Outside.{IsUnread, Outside, Tells}
use Rattle.statefun_cli.proofs.Telling.{read_end, told_end}
use Rattle.statefun_cli.proofs.DecodeAsked.{help_is_shown, long_help_is_shown, right_is_taken, right_value}

-- what one more read puts behind the bytes so far was the next that was left
pub heard_more : (start before after : Option (List ℕ)) (old mid new : List ℕ) (count n : ℕ) → start ≡ ahead (take count old) before
    → take count mid ≡ take count old → take count new ≡ take count mid → before ≡ ahead (take n (drop count new)) after → start ≡ ahead (take (count + n) new) after
heard_more start before after old mid new count n so_far grown kept read =
    let both = take-add count n new in
    rw (so_far, ← grown, ← kept, read, ahead-ahead (take count new) (take n (drop count new)) after, ← both) refl

pub drop_front : (front rest : List ℕ) (n : ℕ) → length front ≡ n → drop n (front ++ rest) ≡ rest
drop_front front rest n e = rw (← e) (drop-append_seam front rest)

same_kind : (a b : MessageKind) → Some (word_of a) ≡ Some (word_of b) → a ≡ b
same_kind Request Request e = refl
same_kind Answer Answer e = refl
same_kind Request Answer e = absurd cc
same_kind Answer Request e = absurd cc

pub none_among : (cause : ErrorKind) (kinds : List ErrorKind) → kinds ≡ [] → IsAmong cause kinds → ⊥
none_among cause [] e among = among
none_among cause (k ∷ ks) e among = absurd cc

-- right words are not refused
not_refused : (words : List (List ℕ)) (kind : MessageKind) (first : List ℕ) (cause : ErrorKind) → words ≡ first ∷ word_of kind ∷ [] → IsRefused words cause → ⊥
not_refused words kind first cause right is =
    none_among cause _ (ap (fault_of (decode_app is.names)) right ∙ right_is_taken is.names first kind is.kinds) is.refused

decoded_by : (words : List (List ℕ)) (kind : MessageKind) (first : List ℕ) (before after : Outside) (end : Result DecodeEnd Fault) (ask : Option DecodeAsk)
    → words ≡ first ∷ word_of kind ∷ [] → IsAsked words ask → IsAnswered ask before after end → IsDecoded kind before after end
decoded_by words kind first before after end None right asked answered = record {
  heard = [];
  taken = sym (ahead-nil after.left ∙ answered.0.0);
  bound = omega arith;
  read = Err OutOfMemory;
  read_cause = answered.0.1;
  settled = (answered.1, answered.2);
}
decoded_by words kind first before after end (Some (Lines k)) right asked answered =
    let value = ap (λ w. one_of (codes "KIND") (matches_of (decode_app asked.names) w)) right ∙ right_value asked.names first kind in
    subst (λ (k : MessageKind). IsDecoded k before after end) (same_kind k kind (sym asked.value ∙ value)) answered
decoded_by words kind first before after end (Some HelpAsked) right asked answered = absurd (not_refused words kind first _ right asked)
decoded_by words kind first before after end (Some UsageAsked) right asked answered = absurd (not_refused words kind first _ right asked.refused)

-- a run on right words decodes a message of their kind
pub right_run : (words : List (List ℕ)) (kind : MessageKind) (first : List ℕ) (before after : Outside) (end : Result DecodeEnd Fault) (status : ℕ)
    → IsAskedRun words before after end → status ≡ decode_status end → words ≡ first ∷ word_of kind ∷ [] → IsRightRun kind before after status
right_run words kind first before after end status run is right = record {
  end = end;
  status_is = is;
  decoded = decoded_by words kind first before after end run.ask right run.asked run.answered;
  sink_cause = run.sink_cause;
}

-- ---- help

only_help : (words : List (List ℕ)) → AsksForHelp words → (names : Bor (List (Bor (List ℕ)))) → fault_of (decode_app names) words ≡ DisplayHelp ∷ []
only_help words (first, inl is) names = ap (fault_of (decode_app names)) is ∙ help_is_shown names first
only_help words (first, inr is) names = ap (fault_of (decode_app names)) is ∙ long_help_is_shown names first

pub among_help : (cause : ErrorKind) (kinds : List ErrorKind) → kinds ≡ DisplayHelp ∷ [] → IsAmong cause kinds → cause ≡ DisplayHelp
among_help cause [] e among = absurd among
among_help cause (k ∷ ks) e (inl is) = cc
among_help cause (k ∷ []) e (inr among) = absurd among
among_help cause (k ∷ l ∷ ks) e (inr among) = absurd cc

helped_by : (words : List (List ℕ)) (before after : Outside) (end : Result DecodeEnd Fault) (ask : Option DecodeAsk) → AsksForHelp words → IsAsked words ask → IsAnswered ask before after end
    → IsUnread before after × Tells before.written after.written help_text Help end
helped_by words before after end None help asked answered =
    (answered.0, subst (λ (end : Result DecodeEnd Fault). Tells before.written after.written help_text Help end) (sym answered.1) (0, omega arith, answered.2 ∙ sym (more-nil before.written)))
helped_by words before after end (Some (Lines k)) help asked answered = let only = only_help words help asked.names in let none = asked.taken in absurd cc
helped_by words before after end (Some HelpAsked) help asked answered = answered
helped_by words before after end (Some UsageAsked) help asked answered =
    absurd (asked.no_help (among_help asked.cause _ (only_help words help asked.refused.names) asked.refused.refused))

pub help_run : (words : List (List ℕ)) (before after : Outside) (end : Result DecodeEnd Fault) (status : ℕ)
    → IsAskedRun words before after end → status ≡ decode_status end → AsksForHelp words → IsHelpRun before after status
help_run words before after end status run is help =
    let helped = helped_by words before after end run.ask help run.asked run.answered in
    record { end = end; status_is = is; unread = helped.0; told = helped.1; sink_cause = run.sink_cause }

-- ---- faults by the status

pub write_fault : (before now : ℕ) (end : Result DecodeEnd Fault) (status : ℕ) → HasCause before now end → status ≡ decode_status end → status ≡ 11 → Rose before now
write_fault before now (Ok Decoded) status cause is at = absurd (omega arith)
write_fault before now (Ok Faulty) status cause is at = absurd (omega arith)
write_fault before now (Ok Help) status cause is at = absurd (omega arith)
write_fault before now (Ok Usage) status cause is at = absurd (omega arith)
write_fault before now (Ok ReadFault) status cause is at = absurd (omega arith)
write_fault before now (Err Failed) status cause is at = cause.1
write_fault before now (Err OutOfMemory) status cause is at = absurd (omega arith)

pub no_write_fault : (before now : ℕ) (end : Result DecodeEnd Fault) (status : ℕ) → HasCause before now end → status ≡ decode_status end → status ≢ 11 → now ≡ before
no_write_fault before now (Ok end) status cause is other = cause
no_write_fault before now (Err Failed) status cause is other = absurd (other is)
no_write_fault before now (Err OutOfMemory) status cause is other = cause

end_no_fault : (lines : Result (List ℕ) WireFault) → end_by lines ≡ ReadFault → ⊥
end_no_fault (Ok lines) e = cc
end_no_fault (Err fault) e = cc

answered_fault : (before after : Outside) (end : Result DecodeEnd Fault) (ask : Option DecodeAsk) → IsAnswered ask before after end → end ≡ Ok ReadFault → Rose before.read_faults after.read_faults
answered_fault before after end None answered is = let memory = answered.1 in absurd cc
answered_fault before after end (Some (Lines kind)) answered is = elim (read_end (reader kind) before after ReadFault end answered is) [
  | inl h ↦ absurd (end_no_fault (lines_of kind h.0) h.1)
  | inr h ↦ h.1
]
answered_fault before after end (Some HelpAsked) answered is = let told = told_end _ _ help_text Help ReadFault end answered.1 is in absurd cc
answered_fault before after end (Some UsageAsked) answered is = let told = told_end _ _ _ Usage ReadFault end answered.1 is in absurd cc

ends_read_fault : (end : Result DecodeEnd Fault) (status : ℕ) → status ≡ decode_status end → status ≡ 9 → end ≡ Ok ReadFault
ends_read_fault (Ok Decoded) status is at = absurd (omega arith)
ends_read_fault (Ok Faulty) status is at = absurd (omega arith)
ends_read_fault (Ok Help) status is at = absurd (omega arith)
ends_read_fault (Ok Usage) status is at = absurd (omega arith)
ends_read_fault (Ok ReadFault) status is at = refl
ends_read_fault (Err Failed) status is at = absurd (omega arith)
ends_read_fault (Err OutOfMemory) status is at = absurd (omega arith)

pub read_fault : (words : List (List ℕ)) (before after : Outside) (end : Result DecodeEnd Fault) (status : ℕ)
    → IsAskedRun words before after end → status ≡ decode_status end → status ≡ 9 → Rose before.read_faults after.read_faults
read_fault words before after end status run is at = answered_fault before after end run.ask run.answered (ends_read_fault end status is at)
