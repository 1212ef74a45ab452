-- What runs make of a folder that had nothing.
use Rattle.std.proofs.Common.{◌≡◌, inr, ℕ, List, [], ◌∷◌, ◌++◌, length, Option, refl, sym, ◌∙◌, ap, subst, arith}
use Rattle.std.specs.Prelude.{Some, None}
use Rattle.sf_outside.specs.Splits.{Lists}
use Rattle.sf_disk.specs.Moments.{Folder}
use Rattle.block_log.specs.Blocks.{StandsFor}
use Rattle.address_routing.specs.declared.module.Module.{Module}
use Rattle.run_record.specs.Record.{merged}
use Rattle.folder_form.specs.Folders.{Contents, no_contents, record_of}
use Rattle.checkpoint_storage.specs.Folders.{Stands}
use Rattle.checkpoint_state.specs.Meaning.{state_in}
use Rattle.checkpoint_state.specs.Laws.{NoneIsGood}
use Rattle.checkpoint_drive.specs.Laws.{IsBackedBy}
use Rattle.checkpoint_drive.specs.declared.end.DriveEnd.{DriveEnd}
use Rattle.checkpoint_drive.specs.declared.end.DriveEnd.TheVariants.{Done}
use Rattle.checkpoint_drive.specs.Good.{EmptyIsGood, EndsTruly, HasGood, HasGrown, IsAllDone, egress_of_all, no_folder}
use Rattle.checkpoint_drive.specs.Lives.{HasDone, LivesEndDone, Life, LivesKeepGood, LivesMakeGood, exchanged_in}
use Rattle.checkpoint_drive.proofs.LongLives.{Laws, last_ends, only}
use Rattle.checkpoint_drive.proofs.Whole.{stands_once}

no_blocks : StandsFor [] []
no_blocks = inr (omega arith, refl)

none_stands : (text : List ℕ) → Stands text no_folder no_contents []
none_stands text = record {
  form = None;
  has_form = record { files = λ file. []; are_logs = record { manifest = no_blocks; logs = λ partition less. no_blocks }; form_is = refl };
  job = tt;
  contents_are = refl;
  has_epochs = ([], no_blocks, refl);
}

pub empty_is_good : NoneIsGood → EmptyIsGood
empty_is_good none m text told = record {
  contents = no_contents;
  epochs = [];
  stands = none_stands text;
  good = none m told;
  are = record { front = ([], refl); near = omega arith };
}

-- a record without entries is backed
none_backed : (m : Module) (told : Lists) → IsBackedBy [] m told no_contents
unfolding record_of merged
none_backed m told = tt

module _ (lives : LivesKeepGood) (empty : EmptyIsGood) where
  from_nothing : (m : Module) (text : List ℕ) (told later : Lists) (last : Folder) (made : List Life)
      → HasGrown m text told later (Some []) (exchanged_in made) no_folder last → (good : HasGood m text later last) × IsBackedBy (exchanged_in made) m later good.contents
  from_nothing m text told later last made h = (
    record { contents = h.now; epochs = h.committed; stands = h.stands; good = h.good; are = h.are },
    h.backed [] (subst (IsBackedBy [] m told) (stands_once text no_folder no_contents h.contents [] h.epochs (none_stands text) h.stood).0 (none_backed m told)),
  )

  pub lives_make_good : LivesMakeGood
  lives_make_good m text told last made routable modest are =
      let r = lives m text told no_folder last made routable modest (empty m text told) are in
      let g = from_nothing m text told r.0 last made r.1 in
      (r.0, g.0, g.1)

-- ---- the last one is done

over_once : (o : Option Lists) (a b : Lists) → o ≡ Some a → o ≡ Some b → a ≡ b
over_once o a b is_a is_b = cc

done_so : (m : Module) (text : List ℕ) (now later : Lists) (number : ℕ) (folder : Folder) (good : HasGood m text later folder) → EndsTruly m text now (Done number) folder
    → HasDone m now number good.contents good.epochs
done_so m text now later number folder good (all, done) =
    let once = stands_once text folder all.contents good.contents (egress_of_all all.contents) good.epochs all.stands good.stands in
    record {
      number_is = subst (λ (c : Contents). length c.checkpoints ≡ number) once.0 all.number_is;
      committed = sym once.1 ∙ ap egress_of_all once.0;
      all_done = subst (λ (c : Contents). IsAllDone m now (state_in c)) once.0 done;
    }

pub lives_end_done : Laws → LivesMakeGood → EmptyIsGood → LivesEndDone
lives_end_done laws make empty m text told now folder lives last number moment routable modest are ended began is image =
    let made = make m text told folder (lives ++ last ∷ []) routable modest are in
    let e = last_ends laws m text routable modest told no_folder lives (λ f. f ≡ no_folder) told [] (only laws m text routable modest told no_folder (empty m text told)) last folder are moment is image in
    let truly : EndsTruly m text now (Done number) folder =
    subst (λ (lists : Lists). EndsTruly m text lists (Done number) folder) (over_once last.before.lists e.0 now e.1 began) (subst (λ (end : DriveEnd). EndsTruly m text e.0 end folder) ended e.2) in
    (made.0, made.1, made.2, done_so m text now made.0 number folder made.1 truly)
