use Rattle.std.proofs.Common.{Global, map, refl, subst}
use Rattle.std.specs.Prelude.{Some}
use Rattle.std.specs.String.{string_bytes}
use Rattle.command_io.specs.declared.words.Asked.{Asked}
use Rattle.command_io.specs.declared.words.Asked.TheVariants.{Work, Help, Usage}
use Rattle.command_io.specs.Words.{AsksFor}
use Rattle.folder_commands.specs.ShowWords.{show_app}
use Rattle.folder_commands.proofs.show.show_end.Goals as goal

pub returns-in-Ok-Work-clause-ends : goal.returns-in-Ok-Work-clause-ends
returns-in-Ok-Work-clause-ends g c = record {
  asked = Some Work;
  asks = subst (λ (a : Asked). AsksFor show_app (map (string_bytes {Z = Global}) c.args.words.now) a) c.in-Ok-Work.field-0-is c.in-Ok-Work.ensures;
  answered = c.folder_end.ensures.works;
}

pub returns-in-Ok-Help-clause-ends : goal.returns-in-Ok-Help-clause-ends
returns-in-Ok-Help-clause-ends g c = record {
  asked = Some Help;
  asks = subst (λ (a : Asked). AsksFor show_app (map (string_bytes {Z = Global}) c.args.words.now) a) c.in-Ok-Help.field-0-is c.in-Ok-Help.ensures;
  answered = (refl, refl);
}

pub returns-in-Ok-Usage-clause-ends : goal.returns-in-Ok-Usage-clause-ends
returns-in-Ok-Usage-clause-ends g c = record {
  asked = Some Usage;
  asks = subst (λ (a : Asked). AsksFor show_app (map (string_bytes {Z = Global}) c.args.words.now) a) c.in-Ok-Usage.field-0-is c.in-Ok-Usage.ensures;
  answered = (refl, refl);
}
