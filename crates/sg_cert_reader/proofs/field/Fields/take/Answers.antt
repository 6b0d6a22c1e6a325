use Rattle.sg_cert_reader.proofs.FieldSteps.{take_some, take_last, taken_first, taken_rest}
use Rattle.sg_cert_reader.proofs.field.Fields.take.Goals as goal

pub returns-in-Some : goal.returns-in-Some
returns-in-Some c =
    let e = take_some c.self.inside.rest.now c.self.inside.ended c.args.self.now c.in-Some.field.now c.in-Some.after.now c.self.view_is c.if-self.false c.in-Some.ensures.parts in
    record { taken = e; first = taken_first _ _ _ e; rest = taken_rest _ _ _ e }

pub returns-in-None : goal.returns-in-None
returns-in-None c =
    let e = take_last c.self.inside.rest.now c.self.inside.ended c.args.self.now c.self.view_is c.if-self.false c.in-None.ensures.parts in
    record { taken = e; first = taken_first _ _ _ e; rest = taken_rest _ _ _ e }
