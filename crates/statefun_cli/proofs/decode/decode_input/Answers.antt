use Rattle.std.proofs.Common.{ℕ, List, refl, subst}
use Rattle.std.specs.Prelude.{Ok, Err}
use Rattle.sf_outside.specs.declared.fault.Fault.TheVariants.{Failed, OutOfMemory}
use Rattle.statefun_cli.specs.Decode.{decode_end, decode_text}
use Rattle.statefun_cli.specs.Outside.{Tells}
use Rattle.statefun_cli.proofs.decode.decode_input.Goals as goal

pub returns-in-Ok-clause-decoded : goal.returns-in-Ok-clause-decoded
returns-in-Ok-clause-decoded g c = record {
  heard = c.in-Ok.bytes;
  taken = c.in-Ok.ensures.heard;
  bound = c.in-Ok.ensures.bound;
  read = Ok tt;
  read_cause = c.in-Ok.ensures.cause;
  settled = (
    c.in-Ok.ensures.whole,
    subst (λ (bytes : List ℕ). Tells (g.O.Sink.written c.args.out.now) (g.O.Sink.written c.tell_message.new.out) (decode_text c.args.kind bytes) (decode_end c.args.kind bytes) c.tell_message.result) c.as_slice.ensures c.tell_message.ensures.told,
  );
}

pub returns-in-Err-Failed-clause-decoded : goal.returns-in-Err-Failed-clause-decoded
returns-in-Err-Failed-clause-decoded g c = record {
  heard = c.in-Err-Failed.ensures.part.0;
  taken = c.in-Err-Failed.ensures.part.2;
  bound = c.in-Err-Failed.ensures.part.1;
  read = Err Failed;
  read_cause = rw c.in-Err-Failed.field-0-is at c.in-Err-Failed.ensures.cause;
  settled = c.tell.ensures.told;
}

pub returns-in-Err-OutOfMemory-clause-decoded : goal.returns-in-Err-OutOfMemory-clause-decoded
returns-in-Err-OutOfMemory-clause-decoded g c = record {
  heard = c.in-Err-OutOfMemory.ensures.part.0;
  taken = c.in-Err-OutOfMemory.ensures.part.2;
  bound = c.in-Err-OutOfMemory.ensures.part.1;
  read = Err OutOfMemory;
  read_cause = rw c.in-Err-OutOfMemory.field-0-is at c.in-Err-OutOfMemory.ensures.cause;
  settled = (refl, refl);
}
