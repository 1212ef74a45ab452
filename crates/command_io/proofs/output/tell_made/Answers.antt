use Rattle.std.proofs.Common.{refl, sym, arith}
use Rattle.std.specs.Prelude.{Err}
use Rattle.sf_outside.specs.declared.fault.Fault.TheVariants.{OutOfMemory}
use Rattle.sf_outside.specs.Told.{more-nil}
use Rattle.command_io.proofs.output.tell_made.Goals as goal

pub returns-in-Err : goal.returns-in-Err
returns-in-Err g c text is = record {
  wrote = Err OutOfMemory;
  cause = refl;
  written = (0, omega arith, sym (more-nil (g.O.Sink.written c.args.out.now)));
  status_is = refl;
}
