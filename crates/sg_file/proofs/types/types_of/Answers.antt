use Rattle.std.proofs.Common.{◌≡◌, ◌∙◌, ◌+◌, length, map, get_or, Ok, sym, arith}
use Rattle.std.proofs.lemmas.List.{map_push, length-map}
use Rattle.toml.specs.View.{view as data_of}
use Rattle.sg_model.specs.Games.{Attacker}
use Rattle.sg_game.specs.Seen.{attacker_of}
use Rattle.sg_file.specs.Sections.{type_at}
use Rattle.sg_file.specs.Answers.{FailsPart}
use Rattle.sg_file.proofs.Items.{each-done, numbered-Fails, numbered-next}
use Rattle.sg_file.proofs.types.types_of.Goals as goal

pub returns-in-Err : goal.returns-in-Err
returns-in-Err c =
    let before = map attacker_of c.loop-i.types.items in
    let read : FailsPart c.in-Err.e (type_at c.args.form (c.loop-i.i + 1) before (data_of (get_or c.args.values.now c.loop-i.i c.index-values-i.result))) =
    rw (← c.index-values-i.is) (c.in-Err.ensures.gives before c.loop-i.invariant.indexed) in
    rw (← c.loop-i.invariant.read) (numbered-Fails attacker_of (type_at c.args.form) c.loop-i.types.items c.args.values.now c.loop-i.i (omega arith) c.index-values-i.result c.in-Err.e c.loop-i-test.true read)

pub loop-i-preserved : goal.loop-i-preserved
loop-i-preserved c =
    let before = map attacker_of c.loop-i.types.items in
    let read : type_at c.args.form (c.loop-i.i + 1) before (data_of (get_or c.args.values.now c.loop-i.i c.index-values-i.result)) ≡ Ok (attacker_of c.in-Ok.attacker) =
    rw (← c.index-values-i.is) (c.in-Ok.ensures.gives before c.loop-i.invariant.indexed) in
    let next = numbered-next attacker_of (type_at c.args.form) c.loop-i.types.items c.args.values.now c.loop-i.i (omega arith) c.index-values-i.result c.in-Ok.attacker c.loop-i-test.true read in
    let names_count : c.loop-i.i + 1 ≡ length (map (λ (x : Attacker). x.name) before) + 1 = omega (arith, length-map before (λ (x : Attacker). x.name), length-map c.loop-i.types.items attacker_of) in
    record {
      count = rw (c.in_ok-push-in-Ok.ensures.len) (omega arith);
      indexed = rw (c.in_ok-push-in-Ok.ensures.items, map_push attacker_of c.loop-i.types.items c.in-Ok.attacker, map_push (λ (x : Attacker). x.name) before (attacker_of c.in-Ok.attacker))
          (c.in-Ok.ensures.indexed (map (λ (x : Attacker). x.name) before) c.loop-i.invariant.indexed names_count);
      read = rw (c.in_ok-push-in-Ok.ensures.items) (next ∙ c.loop-i.invariant.read);
    }

pub returns : goal.returns
returns c = sym c.loop-i.invariant.read ∙ each-done _ (map attacker_of c.loop-i.types.items) c.args.values.now c.loop-i.i c.loop-i-test.false
