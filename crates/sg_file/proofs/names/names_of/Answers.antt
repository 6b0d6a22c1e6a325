use Rattle.std.proofs.Common.{◌≡◌, ◌∙◌, ◌+◌, get_or, Ok, string_bytes, length, sym, arith}
use Rattle.std.proofs.lemmas.List.{map_push, length-map}
use Rattle.toml.specs.View.{view as data_of}
use Rattle.sg_game.specs.Seen.{texts}
use Rattle.sg_format.specs.Lists.{new_name}
use Rattle.sg_file.specs.Answers.{FailsPart}
use Rattle.sg_file.specs.Sections.{entry_of}
use Rattle.sg_file.proofs.Items.{each-done, numbered-Fails, numbered-next}
use Rattle.sg_file.proofs.names.names_of.Goals as goal

pub returns-in-Err-clause-gives : goal.returns-in-Err-clause-gives
returns-in-Err-clause-gives c =
    let before = texts c.loop-i.list.items in
    let read : FailsPart c.in-Err.e (new_name (entry_of c.args.listing (c.loop-i.i + 1)) before (data_of (get_or c.args.values.now c.loop-i.i c.index-values-i.result))) =
    rw (← c.index-values-i.is, ← c.entry-place.ensures) (c.in-Err.ensures.gives before c.loop-i.invariant.indexed) in
    rw (← c.loop-i.invariant.read) (numbered-Fails string_bytes (λ n. new_name (entry_of c.args.listing n)) c.loop-i.list.items c.args.values.now c.loop-i.i (omega arith) c.index-values-i.result c.in-Err.e c.loop-i-test.true read)

pub loop-i-preserved : goal.loop-i-preserved
loop-i-preserved c =
    let before = texts c.loop-i.list.items in
    let read : new_name (entry_of c.args.listing (c.loop-i.i + 1)) before (data_of (get_or c.args.values.now c.loop-i.i c.index-values-i.result)) ≡ Ok (string_bytes c.in-Ok.name) =
    rw (← c.index-values-i.is, ← c.entry-place.ensures) (c.in-Ok.ensures.gives before c.loop-i.invariant.indexed) in
    let next = numbered-next string_bytes (λ n. new_name (entry_of c.args.listing n)) c.loop-i.list.items c.args.values.now c.loop-i.i (omega arith) c.index-values-i.result c.in-Ok.name c.loop-i-test.true read in
    let count : c.loop-i.i + 1 ≡ length before + 1 = omega (arith, length-map c.loop-i.list.items string_bytes) in
    record {
      count = rw (c.in_ok-push-in-Ok.ensures.len) (omega arith);
      indexed = rw (c.in_ok-push-in-Ok.ensures.items, map_push string_bytes c.loop-i.list.items c.in-Ok.name) (c.in-Ok.ensures.indexed before c.loop-i.invariant.indexed count);
      read = rw (c.in_ok-push-in-Ok.ensures.items) (next ∙ c.loop-i.invariant.read);
    }

pub returns-clause-gives : goal.returns-clause-gives
returns-clause-gives c = sym c.loop-i.invariant.read ∙ each-done _ (texts c.loop-i.list.items) c.args.values.now c.loop-i.i c.loop-i-test.false
