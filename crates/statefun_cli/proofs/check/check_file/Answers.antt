use Rattle.std.proofs.Common.{ℕ, List, refl, subst}
use Rattle.std.specs.Prelude.{Ok, Err}
use Rattle.sf_outside.specs.declared.fault.Fault.TheVariants.{Failed, OutOfMemory}
use Rattle.statefun_cli.specs.Check.{check_end, check_text}
use Rattle.statefun_cli.specs.Outside.{Tells}
use Rattle.statefun_cli.proofs.check.check_file.Goals as goal

pub returns-in-Ok-clause-checked : goal.returns-in-Ok-clause-checked
returns-in-Ok-clause-checked g c = record {
  heard = c.in-Ok.bytes;
  taken = c.in-Ok.ensures.heard;
  bound = c.in-Ok.ensures.bound;
  read = Ok tt;
  read_cause = c.in-Ok.ensures.cause;
  settled = (
    c.in-Ok.ensures.whole,
    subst (λ (bytes : List ℕ). Tells (g.O.Sink.written c.args.out.now) (g.O.Sink.written c.tell_module.new.out) (check_text bytes) (check_end bytes) c.tell_module.result) c.as_slice.ensures c.tell_module.ensures.told,
  );
}

pub returns-in-Err-Failed-clause-checked : goal.returns-in-Err-Failed-clause-checked
returns-in-Err-Failed-clause-checked g c = record {
  heard = c.in-Err-Failed.ensures.part.0;
  taken = c.in-Err-Failed.ensures.part.2;
  bound = c.in-Err-Failed.ensures.part.1;
  read = Err Failed;
  read_cause = rw c.in-Err-Failed.field-0-is at c.in-Err-Failed.ensures.cause;
  settled = c.tell.ensures.told;
}

pub returns-in-Err-OutOfMemory-clause-checked : goal.returns-in-Err-OutOfMemory-clause-checked
returns-in-Err-OutOfMemory-clause-checked g c = record {
  heard = c.in-Err-OutOfMemory.ensures.part.0;
  taken = c.in-Err-OutOfMemory.ensures.part.2;
  bound = c.in-Err-OutOfMemory.ensures.part.1;
  read = Err OutOfMemory;
  read_cause = rw c.in-Err-OutOfMemory.field-0-is at c.in-Err-OutOfMemory.ensures.cause;
  settled = (refl, refl);
}
