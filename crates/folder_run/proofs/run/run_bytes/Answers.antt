use Rattle.std.proofs.Common.{inl}
use Rattle.folder_run.specs.declared.end.RunEnd.TheVariants.{ModuleRefused, OutOfMemory}
use Rattle.folder_run.proofs.Ran.{refused_run, unrun}
use Rattle.folder_run.proofs.run.run_bytes.Goals as goal

pub returns-in-Err-Refused-clause-ran : goal.returns-in-Err-Refused-clause-ran
returns-in-Err-Refused-clause-ran g c =
    let fault = c.in-Err-Refused in (
      record { ingress = c.args.ingress.ghost_name; link = c.args.link.ghost_name; clock = c.args.clock.ghost_name },
      refused_run _ fault.field-0 fault.document fault.line fault.kind c.args.options _ _ _ fault.field-0-is fault.ensures.refused
          (unrun (ModuleRefused fault.document fault.line fault.kind) _ _ _ (g.O.Sink.written c.args.out.now) (g.O.Sink.written c.told.new.out) c.told.result (rw fault.field-0-is at c.told.ensures.told)),
    )

pub returns-in-Err-OutOfMemory-clause-ran : goal.returns-in-Err-OutOfMemory-clause-ran
returns-in-Err-OutOfMemory-clause-ran g c =
    let told = c.told-in-Err-OutOfMemory in (
      record { ingress = c.args.ingress.ghost_name; link = c.args.link.ghost_name; clock = c.args.clock.ghost_name },
      inl (unrun OutOfMemory _ _ _ _ _ told.result told.ensures.told),
    )
