use Rattle.std.proofs.Common.{◌≡◌, ◌∙◌, ◌+◌, length, map, get_or, Ok, sym, arith}
use Rattle.std.proofs.lemmas.List.{map_push, length-map}
use Rattle.toml.specs.View.{view as data_of}
use Rattle.sg_model.specs.Games.{Named}
use Rattle.sg_game.specs.Seen.{named_of}
use Rattle.sg_format.specs.Lists.{named_at}
use Rattle.sg_file.specs.Answers.{FailsPart}
use Rattle.sg_file.specs.Sections.{key_of, member_place, members_limit}
use Rattle.sg_file.proofs.Items.{each-done, numbered-Fails, numbered-next}
use Rattle.sg_file.proofs.lists.lists_of.Goals as goal

pub returns-in-Err-clause-gives : goal.returns-in-Err-clause-gives
returns-in-Err-clause-gives c = λ names known.
    let before = map named_of c.loop-i.parts.items in
    let read : FailsPart c.in-Err.e (named_at (member_place c.args.group (c.loop-i.i + 1)) (key_of c.args.group) names (members_limit c.args.group) before (data_of (get_or c.args.values.now c.loop-i.i c.index-values-i.result))) =
    rw (← c.index-values-i.is) (c.in-Err.ensures.gives names before known c.loop-i.invariant.indexed) in
    rw (← c.loop-i.invariant.read names known) (numbered-Fails named_of (λ n. named_at (member_place c.args.group n) (key_of c.args.group) names (members_limit c.args.group)) c.loop-i.parts.items c.args.values.now c.loop-i.i (omega arith) c.index-values-i.result c.in-Err.e c.loop-i-test.true read)

pub loop-i-preserved : goal.loop-i-preserved
loop-i-preserved c =
    let before = map named_of c.loop-i.parts.items in
    let names_count : c.loop-i.i + 1 ≡ length (map (λ (x : Named). x.name) before) + 1 = omega (arith, length-map before (λ (x : Named). x.name), length-map c.loop-i.parts.items named_of) in
    record {
      count = rw (c.in_ok-push-in-Ok.ensures.len) (omega arith);
      indexed = rw (c.in_ok-push-in-Ok.ensures.items, map_push named_of c.loop-i.parts.items c.in-Ok.part, map_push (λ (x : Named). x.name) before (named_of c.in-Ok.part))
          (c.in-Ok.ensures.indexed (map (λ (x : Named). x.name) before) c.loop-i.invariant.indexed names_count);
      read = λ names known.
          let read : named_at (member_place c.args.group (c.loop-i.i + 1)) (key_of c.args.group) names (members_limit c.args.group) before (data_of (get_or c.args.values.now c.loop-i.i c.index-values-i.result)) ≡ Ok (named_of c.in-Ok.part) =
          rw (← c.index-values-i.is) (c.in-Ok.ensures.gives names before known c.loop-i.invariant.indexed) in
          let next = numbered-next named_of (λ n. named_at (member_place c.args.group n) (key_of c.args.group) names (members_limit c.args.group)) c.loop-i.parts.items c.args.values.now c.loop-i.i (omega arith) c.index-values-i.result c.in-Ok.part c.loop-i-test.true read in
          rw (c.in_ok-push-in-Ok.ensures.items) (next ∙ c.loop-i.invariant.read names known);
    }

pub returns-clause-gives : goal.returns-clause-gives
returns-clause-gives c = λ names known. sym (c.loop-i.invariant.read names known) ∙ each-done _ (map named_of c.loop-i.parts.items) c.args.values.now c.loop-i.i c.loop-i-test.false
