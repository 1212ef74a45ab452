-- The fields of a manifest's messages. While one is read, what it needs may still be absent.
use Rattle.std.specs.Prelude.{List, [], ◌∷◌, map, Option, Some, None, option_map}
use Rattle.proto_wire.specs.Message.{Row, numbers, texts, members, lists}
use Rattle.folder_messages.specs.declared.manifest.Manifest.{Manifest}
use Rattle.folder_messages.specs.declared.manifest.Manifest.TheVariants as manifests
use Rattle.folder_messages.specs.declared.manifest.Job.{Job}
use Rattle.folder_messages.specs.declared.manifest.Opening.{Opening}
use Rattle.folder_messages.specs.declared.manifest.Complete.{Complete}
use Rattle.folder_messages.specs.declared.manifest.Taken.{Taken}
use Rattle.folder_messages.specs.declared.manifest.Place.{Place}
use Rattle.folder_messages.specs.declared.complete.CompleteRead.{CompleteRead}
use Rattle.folder_messages.specs.declared.manifest_message.MemberRead.{MemberRead}
use Rattle.folder_messages.specs.declared.manifest_message.MemberRead.TheVariants as parts
use Rattle.folder_messages.specs.declared.manifest_message.ManifestRead.{ManifestRead}
use Rattle.folder_messages.specs.Needs.{◌>>=◌}
use Rattle.folder_messages.specs.Parts.{shorts, all_of}
use Rattle.folder_messages.specs.Entries.{empty_entry, entry_rows, entry_read, entry_of}

-- ---- counts and places

unfoldable pub empty_taken : Taken
empty_taken = record { count = 0 }

unfoldable pub taken_rows : List (Row Taken)
taken_rows = numbers 1 (λ it. it.count) (λ it new. record it { count = new }) ∷ []

unfoldable pub empty_place : Place
empty_place = record { piece = 0; feedback = 0 }

unfoldable pub place_rows : List (Row Place)
place_rows =
    numbers 1 (λ it. it.piece) (λ it new. record it { piece = new })
    ∷ numbers 2 (λ it. it.feedback) (λ it new. record it { feedback = new })
    ∷ []

-- ---- openings and jobs

unfoldable pub empty_opening : Opening
empty_opening = record { leg = 0 }

unfoldable pub opening_rows : List (Row Opening)
opening_rows = numbers 1 (λ it. it.leg) (λ it new. record it { leg = new }) ∷ []

unfoldable pub empty_job : Job
empty_job = record { version = 0; text = [] }

unfoldable pub job_rows : List (Row Job)
job_rows =
    shorts 1 (λ it. it.version) (λ it new. record it { version = new })
    ∷ texts 2 (λ it. it.text) (λ it new. record it { text = new })
    ∷ []

-- ---- complete checkpoints

unfoldable pub empty_complete : CompleteRead
empty_complete = record { number = 0; leg = 0; moment = 0; taken = []; takes = []; places = [] }

unfoldable pub complete_rows : List (Row CompleteRead)
complete_rows =
    numbers 1 (λ it. it.number) (λ it new. record it { number = new })
    ∷ numbers 2 (λ it. it.leg) (λ it new. record it { leg = new })
    ∷ numbers 3 (λ it. it.moment) (λ it new. record it { moment = new })
    ∷ lists empty_taken taken_rows 4 (λ it. it.taken) (λ it new. record it { taken = new })
    ∷ lists empty_entry entry_rows 5 (λ it. it.takes) (λ it new. record it { takes = new })
    ∷ lists empty_place place_rows 6 (λ it. it.places) (λ it new. record it { places = new })
    ∷ []

abbrev pub complete_read : Complete → CompleteRead
complete_read it = record {
  number = it.number;
  leg = it.leg;
  moment = it.moment;
  taken = it.taken;
  takes = map entry_read it.takes;
  places = it.places;
}

-- it needs what its entries need
unfoldable pub complete_of : CompleteRead → Option Complete
complete_of it =
    option_map (λ takes. record { number = it.number; leg = it.leg; moment = it.moment; taken = it.taken; takes = takes; places = it.places }) (all_of entry_of it.takes)

-- ---- whole messages

-- the member that stands, where it is this one
unfoldable pub job_held : Option MemberRead → Option Job
job_held None = None
job_held (Some (parts.Job job)) = Some job
job_held (Some (parts.Opening opening)) = None
job_held (Some (parts.Complete complete)) = None

unfoldable pub opening_held : Option MemberRead → Option Opening
opening_held None = None
opening_held (Some (parts.Job job)) = None
opening_held (Some (parts.Opening opening)) = Some opening
opening_held (Some (parts.Complete complete)) = None

unfoldable pub complete_held : Option MemberRead → Option CompleteRead
complete_held None = None
complete_held (Some (parts.Job job)) = None
complete_held (Some (parts.Opening opening)) = None
complete_held (Some (parts.Complete complete)) = Some complete

unfoldable pub empty_manifest : ManifestRead
empty_manifest = record { member = None }

unfoldable pub manifest_rows : List (Row ManifestRead)
manifest_rows =
    members empty_job job_rows 1 (λ it. job_held it.member) (λ it job. record { member = Some (parts.Job job) })
    ∷ members empty_opening opening_rows 2 (λ it. opening_held it.member) (λ it opening. record { member = Some (parts.Opening opening) })
    ∷ members empty_complete complete_rows 3 (λ it. complete_held it.member) (λ it complete. record { member = Some (parts.Complete complete) })
    ∷ []

unfoldable pub member_read : Manifest → MemberRead
member_read (manifests.Job job) = parts.Job job
member_read (manifests.Opening opening) = parts.Opening opening
member_read (manifests.Complete complete) = parts.Complete (complete_read complete)

unfoldable pub member_of : MemberRead → Option Manifest
member_of (parts.Job job) = Some (manifests.Job job)
member_of (parts.Opening opening) = Some (manifests.Opening opening)
member_of (parts.Complete complete) = option_map manifests.Complete (complete_of complete)

abbrev pub manifest_read : Manifest → ManifestRead
manifest_read it = record { member = Some (member_read it) }

-- it needs its member, with what that needs
unfoldable pub manifest_of : ManifestRead → Option Manifest
manifest_of it = it.member >>= member_of
