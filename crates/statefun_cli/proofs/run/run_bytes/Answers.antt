use Rattle.std.proofs.Common.{inl}
use Rattle.statefun_cli.specs.declared.end.PlainEnd.TheVariants.{ModuleRefused, OutOfMemory}
use Rattle.statefun_cli.proofs.Ran.{refused-run, unrun}
use Rattle.statefun_cli.proofs.run.run_bytes.Goals as goal

pub returns-in-Err-Refused-clause-ran : goal.returns-in-Err-Refused-clause-ran
returns-in-Err-Refused-clause-ran g c =
    let fault = c.in-Err-Refused in (
      record { ingress = c.args.ingress.ghost_name; link = c.args.link.ghost_name; clock = c.args.clock.ghost_name },
      refused-run _ fault.field-0 fault.document fault.line fault.kind c.args.turns _ _ _ _ fault.field-0-is fault.ensures.refused
          (unrun (ModuleRefused fault.document fault.line fault.kind) _ _ _ c.new.result c.told.result.entries c.told.result.end c.new.ensures c.told.ensures.entries c.told.ensures.told),
    )

pub returns-in-Err-OutOfMemory-clause-ran : goal.returns-in-Err-OutOfMemory-clause-ran
returns-in-Err-OutOfMemory-clause-ran g c =
    let told = c.told-in-Err-OutOfMemory in (
      record { ingress = c.args.ingress.ghost_name; link = c.args.link.ghost_name; clock = c.args.clock.ghost_name },
      inl (unrun OutOfMemory _ _ _ c.new-in-Err-OutOfMemory.result told.result.entries told.result.end c.new-in-Err-OutOfMemory.ensures told.ensures.entries told.ensures.told),
    )
