-- A step of reading: a form was taken from the bytes that are left, or they begin with none.
use Rattle.carrier_io.specs.Reads.{OnFault}
use Rattle.carrier_io.specs.declared.reasons.Stop.{Stop}
use Rattle.carrier_model.specs.Grammar.{Form, Spans}
use Rattle.tnef_props.specs.declared.rest.Rest.{Rest}

abbrev pub Takes : {X : Type 0} → Form X → Rest → X → Rest → Type 0
Takes f from x to = Spans f from.place from.bytes.now x to.place to.bytes.now

abbrev pub Refuses : {X : Type 0} → Form X → Rest → Stop → Type 0
Refuses f from stop = OnFault (f.fails from.place from.bytes.now) stop
