-- Records as bytes of an ingress log.
use Rattle.std.specs.Prelude.{ℕ, List, ◌++◌, length}
use Rattle.std.specs.List.{flat_map}
use Rattle.proto_wire.specs.Varint.{varint}
use Rattle.proto_wire.specs.Message.{spelling}
use Rattle.sf_outside.specs.declared.ingress.IngressRecord.{IngressRecord}
use Rattle.sf_outside.specs.Log.{record_rows}

-- the length of the message, as a varint, and the message in its canonical spelling
unfoldable pub record_text : IngressRecord → List ℕ
record_text made = varint (length (spelling record_rows made)) ++ spelling record_rows made

abbrev pub log_text : List IngressRecord → List ℕ
log_text records = flat_map record_text records
