-- The spelling of each of a manifest's messages is read as that message.
use Rattle.std.proofs.Common.{◌≡◌, ℕ, ◌^◌, ◌<◌, true, List, length, Option, Some, None, Ok, refl}
use Rattle.proto_wire.specs.Message.{fit, spelling}
use Rattle.proto_wire.proofs.RoundTrip.{IsAgain, AllCopies, Fills, again, written-again, texts-copies, numbers-copies, members-copies, lists-copies}
use Rattle.folder_messages.specs.declared.manifest.Manifest.{Manifest}
use Rattle.folder_messages.specs.declared.manifest.Manifest.TheVariants as manifests
use Rattle.folder_messages.specs.declared.manifest.Job.{Job}
use Rattle.folder_messages.specs.declared.manifest.Opening.{Opening}
use Rattle.folder_messages.specs.declared.manifest.Complete.{Complete}
use Rattle.folder_messages.specs.declared.manifest.Taken.{Taken}
use Rattle.folder_messages.specs.declared.manifest.Place.{Place}
use Rattle.folder_messages.specs.declared.manifest_message.MemberRead.{MemberRead}
use Rattle.folder_messages.specs.declared.manifest_message.MemberRead.TheVariants as parts
use Rattle.folder_messages.specs.Entries.{empty_entry, entry_rows, entry_read, entry_of}
use Rattle.folder_messages.specs.Manifests.{empty_taken, taken_rows, empty_place, place_rows, empty_opening, opening_rows, empty_job, job_rows, empty_complete, complete_rows, complete_read, complete_of}
use Rattle.folder_messages.specs.Manifests.{job_held, opening_held, complete_held, empty_manifest, manifest_rows, member_read, member_of, manifest_read, manifest_of}
use Rattle.folder_messages.specs.ManifestSpelling.{taken_value, place_value, opening_value, job_value, complete_spelling, complete_value, manifest_spelling, manifest_value}
use Rattle.folder_messages.proofs.Lists.{all-back}
use Rattle.folder_messages.proofs.RoundTrip.{shorts-copies, written-whole, entry-again, entry-back}

taken-again : IsAgain empty_taken taken_rows
unfolding taken_rows empty_taken
taken-again = again empty_taken taken_rows refl (numbers-copies 1 refl _ (λ it new. record it { count = new }), tt) (λ v. (refl, refl))

place-again : IsAgain empty_place place_rows
unfolding place_rows empty_place
place-again = again empty_place place_rows refl
    (numbers-copies 1 refl _ (λ it new. record it { piece = new }), (numbers-copies 2 refl _ (λ it new. record it { feedback = new }), tt)) (λ v. (refl, (refl, refl)))

opening-again : IsAgain empty_opening opening_rows
unfolding opening_rows empty_opening
opening-again = again empty_opening opening_rows refl (numbers-copies 1 refl _ (λ it new. record it { leg = new }), tt) (λ v. (refl, refl))

job-again : IsAgain empty_job job_rows
unfolding job_rows empty_job
job-again = again empty_job job_rows refl (shorts-copies 1 refl _ (λ it new. record it { version = new }), (texts-copies 2 refl _ _, tt)) (λ v. (refl, (refl, refl)))

complete-again : IsAgain empty_complete complete_rows
unfolding complete_rows empty_complete
complete-again = again empty_complete complete_rows refl (
  numbers-copies 1 refl _ (λ it new. record it { number = new }),
  (
    numbers-copies 2 refl _ (λ it new. record it { leg = new }),
    (
      numbers-copies 3 refl _ (λ it new. record it { moment = new }),
      (
        lists-copies 4 refl empty_taken taken_rows taken-again _ _ (record { there = λ into values. refl; last = λ into values others. refl }),
        (
          lists-copies 5 refl empty_entry entry_rows entry-again _ _ (record { there = λ into values. refl; last = λ into values others. refl }),
          (lists-copies 6 refl empty_place place_rows place-again _ _ (record { there = λ into values. refl; last = λ into values others. refl }), tt),
        ),
      ),
    ),
  ),
) (λ v. (refl, (refl, (refl, (refl, (refl, (refl, refl)))))))

abbrev manifest-copies : AllCopies manifest_rows
unfolding manifest_rows empty_manifest job_held opening_held complete_held
manifest-copies = (
  members-copies 1 refl empty_job job_rows job-again _ _ empty_manifest refl,
  (members-copies 2 refl empty_opening opening_rows opening-again _ _ empty_manifest refl, (members-copies 3 refl empty_complete complete_rows complete-again _ _ empty_manifest refl, tt)),
)

manifest-fills : (member : Option MemberRead) → Fills manifest_rows manifest-copies (record { member = member }) empty_manifest
unfolding manifest_rows empty_manifest job_held opening_held complete_held manifest-copies
manifest-fills None = (refl, (refl, (refl, refl)))
manifest-fills (Some (parts.Job job)) = (refl, (refl, (refl, refl)))
manifest-fills (Some (parts.Opening opening)) = (refl, (refl, (refl, refl)))
manifest-fills (Some (parts.Complete complete)) = (refl, (refl, (refl, refl)))

manifest-again : IsAgain empty_manifest manifest_rows
unfolding manifest_rows
manifest-again = again empty_manifest manifest_rows refl manifest-copies (λ v. manifest-fills v.member)

complete-back : (it : Complete) → complete_of (complete_read it) ≡ Some it
unfolding complete_of
complete-back it = rw (all-back entry_of entry_read entry-back it.takes) refl

member-back : (it : Manifest) → member_of (member_read it) ≡ Some it
unfolding member_of member_read
member-back (manifests.Job job) = refl
member-back (manifests.Opening opening) = refl
member-back (manifests.Complete complete) = rw (complete-back complete) refl

manifest-back : (it : Manifest) → manifest_of (manifest_read it) ≡ Some it
unfolding manifest_of
manifest-back it = member-back it

-- ---- what was written is read again

pub taken-written : (bytes : List ℕ) (it : Taken) → bytes ≡ spelling taken_rows it → fit taken_rows it ≡ true → length bytes < 2 ^ 64 → taken_value bytes ≡ Ok it
unfolding taken_value
taken-written bytes it spelled fits short = written-again empty_taken taken_rows taken-again it bytes spelled fits short

pub place-written : (bytes : List ℕ) (it : Place) → bytes ≡ spelling place_rows it → fit place_rows it ≡ true → length bytes < 2 ^ 64 → place_value bytes ≡ Ok it
unfolding place_value
place-written bytes it spelled fits short = written-again empty_place place_rows place-again it bytes spelled fits short

pub opening-written : (bytes : List ℕ) (it : Opening) → bytes ≡ spelling opening_rows it → fit opening_rows it ≡ true → length bytes < 2 ^ 64 → opening_value bytes ≡ Ok it
unfolding opening_value
opening-written bytes it spelled fits short = written-again empty_opening opening_rows opening-again it bytes spelled fits short

pub job-written : (bytes : List ℕ) (it : Job) → bytes ≡ spelling job_rows it → fit job_rows it ≡ true → length bytes < 2 ^ 64 → job_value bytes ≡ Ok it
unfolding job_value
job-written bytes it spelled fits short = written-again empty_job job_rows job-again it bytes spelled fits short

pub complete-written : (bytes : List ℕ) (it : Complete) → bytes ≡ complete_spelling it → fit complete_rows (complete_read it) ≡ true → length bytes < 2 ^ 64 → complete_value bytes ≡ Ok it
unfolding complete_value complete_spelling
complete-written bytes it spelled fits short = written-whole empty_complete complete_rows complete_read complete_of complete-again complete-back it bytes spelled fits short

pub manifest-written : (bytes : List ℕ) (it : Manifest) → bytes ≡ manifest_spelling it → fit manifest_rows (manifest_read it) ≡ true → length bytes < 2 ^ 64 → manifest_value bytes ≡ Ok it
unfolding manifest_value manifest_spelling
manifest-written bytes it spelled fits short = written-whole empty_manifest manifest_rows manifest_read manifest_of manifest-again manifest-back it bytes spelled fits short
