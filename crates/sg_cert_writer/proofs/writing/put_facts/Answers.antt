use Rattle.std.proofs.Common.{List}
use Rattle.std.specs.List.{flat_map}
use Rattle.sg_tree.specs.declared.fact.Fact.{Fact}
use Rattle.sg_cert.specs.Text.{text_of, fact_rows}
use Rattle.sg_cert_writer.proofs.Adding.{folds_more, folds_stop, folds_end, folds_start}
use Rattle.sg_cert_writer.proofs.LineTexts.{folds_blocks}
use Rattle.sg_cert_writer.proofs.writing.put_facts.Goals as goal

pub loop-fact-init : goal.loop-fact-init
loop-fact-init g c = folds_start (λ (xs : List Fact). text_of (flat_map fact_rows xs)) (λ (x : Fact). text_of (fact_rows x)) (folds_blocks fact_rows) c.args.facts.now _ c.args.block.now

pub loop-fact-preserved : goal.loop-fact-preserved
loop-fact-preserved g c = folds_more (λ (xs : List Fact). text_of (flat_map fact_rows xs)) (λ (x : Fact). text_of (fact_rows x)) (folds_blocks fact_rows) c.args.facts.now c.loop-fact.fact-index c.fact-item.result c.fact-item.result c.loop-fact-test.true c.fact-item.is _ _ _ _ _ _ c.loop-fact.invariant c.in-Ok.ensures

pub returns-in-Err : goal.returns-in-Err
returns-in-Err g c = folds_stop (λ (xs : List Fact). text_of (flat_map fact_rows xs)) (λ (x : Fact). text_of (fact_rows x)) (folds_blocks fact_rows) c.args.facts.now c.loop-fact.fact-index c.fact-item.result c.fact-item.result c.loop-fact-test.true c.fact-item.is _ _ _ _ _ c.loop-fact.invariant c.in-Err.ensures

pub returns : goal.returns
returns g c = folds_end (λ (xs : List Fact). text_of (flat_map fact_rows xs)) c.args.facts.now c.loop-fact.fact-index c.loop-fact-test.false _ _ _ _ c.loop-fact.invariant
