use Rattle.std.proofs.Common.{◌≡◌, ◌+◌, ◌<◌, ◌∙◌, sym, arith, inl, length, ℤ, ℕ}
use Rattle.std.proofs.lemmas.List.{length-map}
use Rattle.sg_split.specs.Lines.{spot, spots}
use Rattle.sg_split.proofs.Firsts.{IsFirst, first_past-is, first_past-none, past_test}
use Rattle.sg_split.proofs.line.target_from.Goals as goal

pub returns-then-earlier-eq0 : goal.returns-then-earlier-eq0
returns-then-earlier-eq0 c =
    sym (first_past-none 1 (spots c.args.line.now) (spot c.args.line.now.moments c.args.place.now) (λ k lt. c.requires.behind k lt (inl c.if-earlier-eq0.true)))

pub returns-then-not-has_ended : goal.returns-then-not-has_ended
returns-then-not-has_ended c =
    let line = c.args.line.now in
    let place : ℤ = spot line.moments c.args.place.now in
    let k : ℕ = c.loop-k.k in
    let lt : k < length line.ends = omega (arith, c.loop-k-test.true, c.len-k-end.ensures) in
    let first : IsFirst (spots line) place k = record {
      in_range = omega (arith, lt, length-map line.ends (spot line.moments));
      before = λ i h. c.loop-k.invariant i h (omega (arith, h, lt));
      past = past_test _ place c.if-not-has_ended.ensures;
    } in
    let e : k + 1 ≡ 1 + k = omega arith in
    e ∙ sym (first_past-is 1 (spots line) place k first)

pub returns : goal.returns
returns c =
    let line = c.args.line.now in
    sym (first_past-none 1 (spots line) (spot line.moments c.args.place.now)
    (λ i lt. let h : i < length line.ends = omega (arith, lt, length-map line.ends (spot line.moments)) in
    c.loop-k.invariant i (omega (arith, h, c.loop-k-test.false, c.len-k-end.ensures)) h))
