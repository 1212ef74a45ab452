use Rattle.std.specs.Prelude.{Ok, Err}
use Rattle.sf_outside.specs.declared.fault.Fault.TheVariants as faults
use Rattle.folder_run.specs.declared.end.RunEnd.TheVariants.{ModuleFault, OutOfMemory}
use Rattle.folder_run.proofs.Ran.{same_bytes_run, unrun}
use Rattle.folder_run.proofs.run.run_file.Goals as goal

pub returns-in-Ok-clause-ran : goal.returns-in-Ok-clause-ran
returns-in-Ok-clause-ran g c =
    let ran = c.run_bytes.ensures.ran in (
      ran.0,
      record {
        heard = c.in-Ok.bytes;
        taken = c.in-Ok.ensures.heard;
        bound = c.in-Ok.ensures.bound;
        read = Ok tt;
        read_cause = c.in-Ok.ensures.cause;
        settled = (c.in-Ok.ensures.whole, same_bytes_run _ _ c.args.options _ _ c.run_bytes.result c.as_slice.ensures ran.1);
      },
    )

pub returns-in-Err-Failed-clause-ran : goal.returns-in-Err-Failed-clause-ran
returns-in-Err-Failed-clause-ran g c = (
  record { ingress = c.args.ingress.ghost_name; link = c.args.link.ghost_name; clock = c.args.clock.ghost_name },
  record {
    heard = c.in-Err-Failed.ensures.part.0;
    taken = c.in-Err-Failed.ensures.part.2;
    bound = c.in-Err-Failed.ensures.part.1;
    read = Err faults.Failed;
    read_cause = rw c.in-Err-Failed.field-0-is at c.in-Err-Failed.ensures.cause;
    settled = unrun ModuleFault _ _ _ _ _ c.told.result c.told.ensures.told;
  },
)

pub returns-in-Err-OutOfMemory-clause-ran : goal.returns-in-Err-OutOfMemory-clause-ran
returns-in-Err-OutOfMemory-clause-ran g c =
    let told = c.told-in-Err-OutOfMemory in (
      record { ingress = c.args.ingress.ghost_name; link = c.args.link.ghost_name; clock = c.args.clock.ghost_name },
      record {
        heard = c.in-Err-OutOfMemory.ensures.part.0;
        taken = c.in-Err-OutOfMemory.ensures.part.2;
        bound = c.in-Err-OutOfMemory.ensures.part.1;
        read = Err faults.OutOfMemory;
        read_cause = rw c.in-Err-OutOfMemory.field-0-is at c.in-Err-OutOfMemory.ensures.cause;
        settled = unrun OutOfMemory _ _ _ _ _ told.result told.ensures.told;
      },
    )
