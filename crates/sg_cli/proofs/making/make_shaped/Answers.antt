use Rattle.std.proofs.Common.{refl}
use Rattle.sg_cli.proofs.MakingStatus.{made_of}
use Rattle.sg_cli.proofs.making.make_shaped.Goals as goal

pub returns-in-Ok-put-clause-ok : goal.returns-in-Ok-put-clause-ok
returns-in-Ok-put-clause-ok g c =
    record {
      success = refl;
      written = c.deref.result.now;
      made = made_of c.args.text.now c.args.seed c.in-Some.shape _ c.deref.result.now c.in-Some.ensures.0 c.in-Some.ensures.1 c.deref.ensures.value c.in-Ok.ensures.canonical c.in-Ok.ensures.file;
      taken = c.in-Ok-put.ensures.whole;
    }

pub returns-clause-err : goal.returns-clause-err
returns-clause-err g c =
    record {
      risen = c.in-Err-put.ensures.failed;
      written = c.deref.result.now;
      made = made_of c.args.text.now c.args.seed c.in-Some.shape _ c.deref.result.now c.in-Some.ensures.0 c.in-Some.ensures.1 c.deref.ensures.value c.in-Ok.ensures.canonical c.in-Ok.ensures.file;
      taken = c.in-Err-put.ensures.front;
    }
