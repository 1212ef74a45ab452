-- What follows from the definition of the turns.
use Rattle.std.specs.Prelude.{List, IsTrue}
use Rattle.address_routing.specs.Routing.{is_routable}
use Rattle.run_record.specs.declared.entry.Entry.{Entry}
use Rattle.statefun_driver.specs.declared.end.End.{End}
use Rattle.statefun_driver.specs.Seen.{Event, Seen}
use Rattle.statefun_driver.specs.Turns.{Plan, Control, Origin, no_origin, first_control}
use Rattle.statefun_driver.specs.Traces.{Trace, Ends}
use Rattle.statefun_driver.specs.Runs.{AreModest, IsRun}
use Rattle.statefun_driver.specs.Origins.{IsSoundOrigin}
use Rattle.statefun_driver.specs.Stretches.{IsStretch}

-- what turns come to that begin behind others, up to wherever they stand
abbrev pub TracesAreStretches : Type 0
TracesAreStretches =
    (plan : Plan) (start : Origin) (before now : Seen) (events : List Event) (last : Control)
    → IsTrue (is_routable plan.routes) → AreModest plan.routes.endpoints → IsSoundOrigin start
    → Trace plan (first_control plan start) before events last now → IsStretch plan start before now events last

-- turns that came to an end are a run
abbrev pub EndsAreRuns : Type 0
EndsAreRuns =
    (plan : Plan) (before now : Seen) (entries : List Entry) (end : End)
    → IsTrue (is_routable plan.routes) → AreModest plan.routes.endpoints
    → Ends plan (first_control plan no_origin) before entries end now → IsRun plan before now entries end
