use Rattle.std.proofs.Common.{◌∙◌, ap, map}
use Rattle.std.proofs.lemmas.Result.{IfOk-weaker}
use Rattle.clap.specs.Words.{found_of}
use Rattle.sg_words.specs.Line.{words_id}
use Rattle.sg_words.proofs.Found.{texts_in-Some, texts_in-None}
use Rattle.sg_words.proofs.arguments.words_in.Goals as goal

pub returns-in-Some : goal.returns-in-Some
returns-in-Some c =
    IfOk-weaker c.from_slice.result _ _ (λ words same. ap (map (λ word. word.now)) same ∙ texts_in-Some (found_of c.args.found.now) words_id _ c.in-Some.ensures) c.from_slice.ensures.items

pub returns-in-None : goal.returns-in-None
returns-in-None c = ap (map (λ word. word.now)) c.new.ensures.items ∙ texts_in-None (found_of c.args.found.now) words_id c.in-None.ensures
