use Rattle.std.proofs.Common.{◌∙◌, ap}
use Rattle.folder_messages.specs.ManifestSpelling.{manifest_value}
use Rattle.snapshot_files.proofs.Writing.{says_of}
use Rattle.snapshot_files.proofs.store.Store.write.Goals as goal

pub returns-in-Ok-clause-meanwhile : goal.returns-in-Ok-clause-meanwhile
returns-in-Ok-clause-meanwhile g c = says_of c.args.self.now.manifest c.args.self.now.file c.args.said.now c.as_slice.result.now (ap manifest_value c.as_slice.ensures ∙ c.in_ok-body.ensures.again) _ _ c.append.ensures.meanwhile

pub returns-clause-meanwhile : goal.returns-clause-meanwhile
returns-clause-meanwhile g c = says_of c.args.self.now.manifest c.args.self.now.file c.args.said.now c.as_slice.result.now (ap manifest_value c.as_slice.ensures ∙ c.in_ok-body.ensures.again) _ _ c.append.ensures.meanwhile
