use Rattle.std.proofs.Common.{◌≡◌, ◌∙◌, ap, ℕ, ◌-◌, suc, arith, drop, sym}
use Rattle.std.specs.BTreeMap.{get}
use Rattle.std.specs.Prelude.{find}
use Rattle.address_routing.specs.Kept.{name_order}
use Rattle.address_routing.specs.Routing.{is_exact}
use Rattle.address_routing.proofs.Naming.{noted_more}
use Rattle.address_routing.proofs.maps.exact_places.Goals as goal

pub back-preserved : goal.back-preserved
back-preserved c =
    let at : ℕ = c.back.place - 1 in
    let next : suc at ≡ c.back.place = omega arith in
    record {
      inside = omega arith;
      noted = λ kind. noted_more (is_exact kind) c.args.endpoints.now at c.index-endpoints-place.result
          (get name_order c.back.places kind) (get name_order c.note_exact.new.places kind)
          (omega arith) (cc) (c.back.invariant.noted kind ∙ sym (ap (λ (n : ℕ). find (is_exact kind) (drop n c.args.endpoints.now)) next))
          (c.in_ok-note_exact.ensures kind);
    }
