use Rattle.std.proofs.Common.{Global, map, refl, subst}
use Rattle.std.specs.Prelude.{Some}
use Rattle.std.specs.String.{string_bytes}
use Rattle.command_io.specs.declared.words.Asked.{Asked}
use Rattle.command_io.specs.declared.words.Asked.TheVariants.{Work, Help, Usage}
use Rattle.command_io.specs.Words.{AsksFor}
use Rattle.folder_commands.specs.AppendWords.{append_app}
use Rattle.folder_commands.proofs.append.append_end.Goals as goal

pub returns-in-Ok-Work : goal.returns-in-Ok-Work
returns-in-Ok-Work g c = record {
  asked = Some Work;
  asks = subst (λ (a : Asked). AsksFor append_app (map (string_bytes {Z = Global}) c.args.words.now) a) c.in-Ok-Work.field-0-is c.in-Ok-Work.ensures;
  answered = c.append_input.ensures;
}

pub returns-in-Ok-Help : goal.returns-in-Ok-Help
returns-in-Ok-Help g c = record {
  asked = Some Help;
  asks = subst (λ (a : Asked). AsksFor append_app (map (string_bytes {Z = Global}) c.args.words.now) a) c.in-Ok-Help.field-0-is c.in-Ok-Help.ensures;
  answered = (refl, refl);
}

pub returns-in-Ok-Usage : goal.returns-in-Ok-Usage
returns-in-Ok-Usage g c = record {
  asked = Some Usage;
  asks = subst (λ (a : Asked). AsksFor append_app (map (string_bytes {Z = Global}) c.args.words.now) a) c.in-Ok-Usage.field-0-is c.in-Ok-Usage.ensures;
  answered = (refl, refl);
}
