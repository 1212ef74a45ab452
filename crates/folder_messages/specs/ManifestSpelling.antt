-- The canonical spellings of a manifest's messages, and the values that bytes spell.
use Rattle.std.specs.Prelude.{ℕ, List, Result}
use Rattle.proto_wire.specs.declared.fault.WireFault.{WireFault}
use Rattle.proto_wire.specs.Message.{spelling, value_of}
use Rattle.folder_messages.specs.declared.manifest.Manifest.{Manifest}
use Rattle.folder_messages.specs.declared.manifest.Job.{Job}
use Rattle.folder_messages.specs.declared.manifest.Opening.{Opening}
use Rattle.folder_messages.specs.declared.manifest.Complete.{Complete}
use Rattle.folder_messages.specs.declared.manifest.Taken.{Taken}
use Rattle.folder_messages.specs.declared.manifest.Place.{Place}
use Rattle.folder_messages.specs.Parts.{whole_value}
use Rattle.folder_messages.specs.Manifests.{empty_taken, taken_rows, empty_place, place_rows, empty_opening, opening_rows, empty_job, job_rows}
use Rattle.folder_messages.specs.Manifests.{empty_complete, complete_rows, complete_read, complete_of, empty_manifest, manifest_rows, manifest_read, manifest_of}

unfoldable pub taken_spelling : Taken → List ℕ
taken_spelling taken = spelling taken_rows taken

unfoldable pub taken_value : List ℕ → Result Taken WireFault
taken_value bytes = value_of taken_rows empty_taken bytes

unfoldable pub place_spelling : Place → List ℕ
place_spelling place = spelling place_rows place

unfoldable pub place_value : List ℕ → Result Place WireFault
place_value bytes = value_of place_rows empty_place bytes

unfoldable pub opening_spelling : Opening → List ℕ
opening_spelling opening = spelling opening_rows opening

unfoldable pub opening_value : List ℕ → Result Opening WireFault
opening_value bytes = value_of opening_rows empty_opening bytes

unfoldable pub job_spelling : Job → List ℕ
job_spelling job = spelling job_rows job

unfoldable pub job_value : List ℕ → Result Job WireFault
job_value bytes = value_of job_rows empty_job bytes

unfoldable pub complete_spelling : Complete → List ℕ
complete_spelling complete = spelling complete_rows (complete_read complete)

unfoldable pub complete_value : List ℕ → Result Complete WireFault
complete_value bytes = whole_value complete_rows empty_complete complete_of bytes

unfoldable pub manifest_spelling : Manifest → List ℕ
manifest_spelling manifest = spelling manifest_rows (manifest_read manifest)

unfoldable pub manifest_value : List ℕ → Result Manifest WireFault
manifest_value bytes = whole_value manifest_rows empty_manifest manifest_of bytes
