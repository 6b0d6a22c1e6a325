use Rattle.std.proofs.Common.{◌≡◌, ◌∙◌, get_or, Ok, sym}
use Rattle.toml.specs.View.{view as data_of}
use Rattle.sg_format.specs.Lists.{member_at}
use Rattle.sg_file.specs.Answers.{FailsPart}
use Rattle.sg_file.proofs.Items.{each-Fails, each-next, each-done}
use Rattle.sg_file.proofs.lists.members_of.Goals as goal

pub returns-in-Err : goal.returns-in-Err
returns-in-Err c = λ names known.
    let before = c.loop-i.members.items in
    let read : FailsPart c.in-Err.e (member_at c.args.place names before (data_of (get_or c.args.values.now c.loop-i.i c.index-values-i.result))) =
    rw (← c.index-values-i.is) (c.in-Err.ensures.gives names before known c.loop-i.invariant.marked) in
    rw (← c.loop-i.invariant.read names known) (each-Fails (member_at c.args.place names) before c.args.values.now c.loop-i.i c.index-values-i.result c.in-Err.e c.loop-i-test.true read)

pub loop-i-preserved : goal.loop-i-preserved
loop-i-preserved c =
    let before = c.loop-i.members.items in
    record {
      marked = rw c.in_ok-push-in-Ok.ensures.items (c.in-Ok.ensures.marked before c.loop-i.invariant.marked);
      read = λ names known.
          let read : member_at c.args.place names before (data_of (get_or c.args.values.now c.loop-i.i c.index-values-i.result)) ≡ Ok c.in-Ok.number =
          rw (← c.index-values-i.is) (c.in-Ok.ensures.gives names before known c.loop-i.invariant.marked) in
          let step = each-next (member_at c.args.place names) before c.args.values.now c.loop-i.i c.index-values-i.result _ c.loop-i-test.true read in
          rw c.in_ok-push-in-Ok.ensures.items (sym step ∙ c.loop-i.invariant.read names known);
    }

pub returns : goal.returns
returns c = λ names known. sym (c.loop-i.invariant.read names known) ∙ each-done (member_at c.args.place names) c.loop-i.members.items c.args.values.now c.loop-i.i c.loop-i-test.false
