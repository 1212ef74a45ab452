-- Contents stay good.
use mathlib.Core.Path.{fun_ext}
use Rattle.std.proofs.Common.{◌⊎◌, inl, inr, ◌≡◌, ◌∙◌, sym, ap, refl, subst, ℕ, ◌<◌, ◌≤◌, List, [], ◌∷◌, ◌++◌, false, Some, option_and_then, arith, append_assoc}
use Rattle.std.specs.Prelude.{max}
use Rattle.std.specs.List.{AllByRecursion, IsDistinct}
use Rattle.std.specs.Option.{option_map, option_to_list}
use Rattle.std.proofs.lemmas.List.{append-nil}
use Rattle.std.proofs.lemmas.Bool.Decides.{nat_tests}
use Rattle.std.proofs.Math.Nat.{le-max_left, le-max_right}
use Rattle.typed_values.specs.declared.letter.Sender.{Sender}
use Rattle.typed_values.specs.declared.letter.Sender.TheVariants.{Split, Function}
use Rattle.sf_outside.specs.declared.call.Call.{Call}
use Rattle.sf_outside.specs.Splits.{Lists}
use Rattle.address_routing.specs.declared.module.Module.{Module}
use Rattle.actor_rules.proofs.Lists.{all-append, all-map}
use Rattle.run_record.specs.declared.entry.Entry.{Entry}
use Rattle.run_record.specs.declared.entry.Reply.{Reply}
use Rattle.run_record.specs.Machine.{nothing, first_state, reply_of, arguments_of, arguments_at}
use Rattle.run_record.specs.Record.{replayed, merged}
use Rattle.run_record.specs.Backed.{calls_of, same_call}
use Rattle.run_record.proofs.Steps.{replayed-append, replayed-grown}
use Rattle.folder_form.specs.declared.mark.Mark.{Mark}
use Rattle.folder_form.specs.declared.loaded.Loaded.{Loaded}
use Rattle.folder_form.specs.Folders.{Part, Checkpoint, Contents, no_contents, with_checkpoint, nothing_loaded, loaded_of, record_of}
use Rattle.checkpoint_state.specs.Stored.{stored_own, stored_state}
use Rattle.checkpoint_state.specs.Meaning.{state_in, moment_of, IsWithin, with_only, IsSound, IsGood}
use Rattle.checkpoint_state.specs.Laws.{IsFrom, IsNext, NextKeepsGood, NoneIsGood, LegsKeepGood, ListsKeepGood}
use Rattle.checkpoint_state.proofs.Records.{records_grow}
use Rattle.checkpoint_state.proofs.Stored.{newest_is_loaded}

-- ---- fronts of checkpoints

-- a front of a list with one more is a front of the list, or all of it
shorter_or_all : (checkpoints : List Checkpoint) (last : Checkpoint) (front behind : List Checkpoint) → checkpoints ++ last ∷ [] ≡ front ++ behind → ((more : List Checkpoint) × (checkpoints ≡ front ++ more)) ⊎ (front ≡ checkpoints ++ last ∷ [])
shorter_or_all checkpoints last [] behind e = inl (checkpoints, refl)
shorter_or_all [] last (f ∷ []) behind e = let first : f ≡ last = cc in inr (ap (λ x. x ∷ []) first)
shorter_or_all [] last (f ∷ g ∷ front) behind e = absurd cc
shorter_or_all (c ∷ checkpoints) last (f ∷ front) behind e =
    let first : c ≡ f = cc in
    let later : checkpoints ++ last ∷ [] ≡ front ++ behind = cc in
    elim (shorter_or_all checkpoints last front behind later) [
      | inl more ↦ inl (more.0, (λ i. first i ∷ more.1 i))
      | inr all ↦ inr (λ i. sym first i ∷ all i)
    ]

-- ---- the stored leg is no part of what is sound

abbrev Named : ℕ → List Checkpoint → Contents
Named leg checkpoints = record { leg = leg; checkpoints = checkpoints }

sound_at : (m : Module) (told : Lists) (leg other : ℕ) (checkpoints : List Checkpoint) → IsSound m told (Named leg checkpoints) → IsSound m told (Named other checkpoints)
unfolding loaded_of record_of
sound_at m told leg other checkpoints h = record { replays = h.replays; within = h.within }

-- ---- calls

calls-append : (entries others : List Entry) → calls_of (entries ++ others) ≡ calls_of entries ++ calls_of others
calls-append [] others = refl
calls-append (entry ∷ entries) others =
    let here = option_to_list (option_map (λ (reply : Reply). reply.call) (reply_of entry.step)) in
    ap (λ (calls : List Call). here ++ calls) (calls-append entries others) ∙ sym (append_assoc here (calls_of entries) (calls_of others))

apart : (bound : ℕ) (a b : Call) → a.leg ≤ bound → bound < b.leg → same_call a b ≡ false
apart bound a b h k = grind (arith, nat_tests)

distinct-append : (calls others : List Call) → IsDistinct same_call calls → IsDistinct same_call others → AllByRecursion (λ (call : Call). AllByRecursion (λ (other : Call). same_call call other ≡ false) others) calls → IsDistinct same_call (calls ++ others)
unfolding IsDistinct
distinct-append [] others h k cross = k
distinct-append (call ∷ calls) others h k cross = (all-append (λ (other : Call). same_call call other ≡ false) calls others h.0 cross.0, distinct-append calls others h.1 k cross.1)

-- ---- one more checkpoint

le_le : (a b c : ℕ) → a ≤ b → b ≤ c → a ≤ c
le_le a b c h k = omega (arith, h, k)

module _ (m : Module) (told : Lists) (contents : Contents) (bound : ℕ) (entries : List Entry) (mark : Mark) (part : Part) (good : IsGood m told contents) (next : IsNext m told contents bound entries mark part) where
  abbrev new : Contents
  new = with_checkpoint mark (part ∷ []) contents

  sound : IsSound m told contents
  sound = good.each contents.checkpoints [] (sym (append-nil contents.checkpoints))

  old_legs : AllByRecursion (λ (entry : Entry). entry.leg ≤ bound) (record_of contents)
  old_legs = all-map (IsWithin (loaded_of contents).leg (loaded_of contents).moment) (λ (entry : Entry). entry.leg ≤ bound) (record_of contents)
      (λ entry h. le_le entry.leg (loaded_of contents).leg bound h.0 next.loaded) sound.within

  grown : record_of new ≡ record_of contents ++ entries
  grown = records_grow contents bound entries mark part old_legs
      (all-map (λ (entry : Entry). IsFrom bound mark.leg entry.leg) (λ (entry : Entry). bound < entry.leg) entries (λ entry h. h.0) next.legs) next.rises next.parted

  both : AllByRecursion (λ (entry : Entry). moment_of entry.step ≤ mark.moment) entries → AllByRecursion (λ (entry : Entry). IsFrom bound mark.leg entry.leg) entries → AllByRecursion (IsWithin mark.leg mark.moment) entries
  both = go entries
    where
      go : (es : List Entry) → AllByRecursion (λ (entry : Entry). moment_of entry.step ≤ mark.moment) es → AllByRecursion (λ (entry : Entry). IsFrom bound mark.leg entry.leg) es → AllByRecursion (IsWithin mark.leg mark.moment) es
      go [] h k = tt
      go (e ∷ es) h k = ((k.0.1, h.0), go es h.1 k.1)

  within : AllByRecursion (IsWithin mark.leg mark.moment) (record_of contents ++ entries)
  within = all-append (IsWithin mark.leg mark.moment) (record_of contents) entries
      (all-map (IsWithin (loaded_of contents).leg (loaded_of contents).moment) (IsWithin mark.leg mark.moment) (record_of contents)
      (λ entry h. (
        le_le entry.leg (loaded_of contents).leg mark.leg h.0 (le_le (loaded_of contents).leg bound mark.leg next.loaded next.later),
        le_le (moment_of entry.step) (loaded_of contents).moment mark.moment h.1 next.moment,
      )) sound.within)
      (both next.moments next.legs)

  new_sound : IsSound m told new
  new_sound = record {
    replays = ap (replayed m told first_state) grown ∙ replayed-append m told first_state (record_of contents) entries
        ∙ ap (option_and_then (λ st. replayed m told st entries)) sound.replays ∙ next.replays;
    within = subst (λ (loaded : Loaded). AllByRecursion (IsWithin loaded.leg loaded.moment) (record_of new)) (sym (newest_is_loaded mark (part ∷ []) contents))
        (subst (λ (es : List Entry). AllByRecursion (IsWithin mark.leg mark.moment) es) (sym grown) within);
  }

  calls_grown : calls_of (record_of new) ≡ calls_of (record_of contents) ++ calls_of entries
  calls_grown = ap calls_of grown ∙ calls-append (record_of contents) entries

  new_calls : AllByRecursion (λ (call : Call). call.leg ≤ mark.leg) (calls_of (record_of new))
  new_calls = subst (λ (calls : List Call). AllByRecursion (λ (call : Call). call.leg ≤ mark.leg) calls) (sym calls_grown)
      (all-append (λ (call : Call). call.leg ≤ mark.leg) (calls_of (record_of contents)) (calls_of entries)
      (all-map (λ (call : Call). call.leg ≤ bound) (λ (call : Call). call.leg ≤ mark.leg) (calls_of (record_of contents)) (λ call h. le_le call.leg bound mark.leg h next.later) next.called)
      (all-map (λ (call : Call). IsFrom bound mark.leg call.leg) (λ (call : Call). call.leg ≤ mark.leg) (calls_of entries) (λ call h. h.1) next.calls))

  new_distinct : IsDistinct same_call (calls_of (record_of new))
  new_distinct = subst (IsDistinct same_call) (sym calls_grown)
      (distinct-append (calls_of (record_of contents)) (calls_of entries) good.distinct next.distinct
      (all-map (λ (call : Call). call.leg ≤ bound) (λ (call : Call). AllByRecursion (λ (other : Call). same_call call other ≡ false) (calls_of entries)) (calls_of (record_of contents))
      (λ call h. all-map (λ (other : Call). IsFrom bound mark.leg other.leg) (λ (other : Call). same_call call other ≡ false) (calls_of entries) (λ other k. apart bound call other h k.0) next.calls) next.called))

  new_good : IsGood m told new
  new_good = record {
    each = λ front behind e. elim (shorter_or_all contents.checkpoints (record { mark = mark; parts = part ∷ [] }) front behind e) [
      | inl more ↦ sound_at m told contents.leg (max contents.leg mark.leg) front (good.each front more.0 more.1)
      | inr all ↦ subst (λ (checkpoints : List Checkpoint). IsSound m told (Named (max contents.leg mark.leg) checkpoints)) (sym all) new_sound
    ];
    newest = subst (λ (loaded : Loaded). loaded.leg ≤ max contents.leg mark.leg) (sym (newest_is_loaded mark (part ∷ []) contents)) (le-max_right contents.leg mark.leg);
    calls = all-map (λ (call : Call). call.leg ≤ mark.leg) (λ (call : Call). call.leg ≤ max contents.leg mark.leg) (calls_of (record_of new))
        (λ call h. le_le call.leg mark.leg (max contents.leg mark.leg) h (le-max_right contents.leg mark.leg)) new_calls;
    distinct = new_distinct;
  }

pub next_keeps_good : NextKeepsGood
next_keeps_good m told contents bound entries mark part good next = record {
  good = new_good m told contents bound entries mark part good next;
  behind = grown m told contents bound entries mark part good next;
  calls = new_calls m told contents bound entries mark part good next;
}

-- ---- none, a later leg, longer lists

none_in_front : (front behind : List Checkpoint) → [] ≡ front ++ behind → front ≡ []
none_in_front [] behind e = refl
none_in_front (f ∷ front) behind e = absurd cc

pub none_state : first_state ≡ state_in no_contents
unfolding loaded_of stored_state arguments_of arguments_at
none_state = λ i. record { own = fun_ext own i; mail = λ sender target. []; egress = λ address name. [] }
  where
    own : (actor : Sender) → nothing ≡ stored_own nothing_loaded actor
    own (Split split) = refl
    own (Function address) = refl

none_sound : (m : Module) (told : Lists) → IsSound m told no_contents
unfolding record_of merged
none_sound m told = record { replays = ap Some none_state; within = tt }

pub none_is_good : NoneIsGood
unfolding record_of merged loaded_of IsDistinct
none_is_good m told = record {
  each = λ front behind e. subst (λ (checkpoints : List Checkpoint). IsSound m told (Named 0 checkpoints)) (sym (none_in_front front behind e)) (none_sound m told);
  newest = omega arith;
  calls = tt;
  distinct = tt;
}

pub legs_keep_good : LegsKeepGood
unfolding record_of loaded_of
legs_keep_good m told contents leg good = record {
  each = λ front behind e. sound_at m told contents.leg (max contents.leg leg) front (good.each front behind e);
  newest = le_le (loaded_of contents).leg contents.leg (max contents.leg leg) good.newest (le-max_left contents.leg leg);
  calls = all-map (λ (call : Call). call.leg ≤ contents.leg) (λ (call : Call). call.leg ≤ max contents.leg leg) (calls_of (record_of contents))
      (λ call h. le_le call.leg contents.leg (max contents.leg leg) h (le-max_left contents.leg leg)) good.calls;
  distinct = good.distinct;
}

pub lists_keep_good : ListsKeepGood
lists_keep_good m old new contents grown good = record {
  each = λ front behind e. let h = good.each front behind e in record {
    replays = replayed-grown m old new first_state (state_in (with_only front contents)) (record_of (with_only front contents)) grown h.replays;
    within = h.within;
  };
  newest = good.newest;
  calls = good.calls;
  distinct = good.distinct;
}
