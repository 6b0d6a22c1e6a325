-- What clap's matches and commands say in the words of the definitions.
use Rattle.std.proofs.Common.{◌≡◌, ◌∙◌, Bool, true, false, List, [], Option, Some, None, refl, sym, ap}
use Rattle.std.specs.Prelude.{◌&&◌, not, option_map, unwrap_or}
use Rattle.std.proofs.lemmas.Bool.{false≢true}
use Rattle.clap.specs.Words.{App, Row, all_of, app_of, matched_of, raw_values, rows_of}
use Rattle.clap.specs.declared.builder.command.Command.{Command}
use Rattle.clap.specs.declared.builder.command.Command.TheViews.{out-Command}
use Rattle.clap.specs.declared.parser.matches.Found.{Found}
use Rattle.clap.proofs.WalkLemmas.{raw_values-rows}
use Rattle.sg_words.specs.Words.{Text}
use Rattle.sg_words.specs.Line.{texts_in}

third_is_true : (a b c d : Bool) → (a && (b && (not c && d))) ≡ true → c ≡ false
third_is_true false b c d e = absurd (false≢true e)
third_is_true true false c d e = absurd (false≢true e)
third_is_true true true true d e = absurd (false≢true e)
third_is_true true true false d e = refl

-- a plain command has no global argument
pub no_globals : (c : Command) (a : App) → a.top.is_plain ≡ true → app_of c ≡ a → (out-Command c).has_globals ≡ false
no_globals c a plain e = third_is_true _ _ (out-Command c).has_globals _ (ap (λ (b : App). b.top.is_plain) e ∙ plain)

-- the texts under an id, where the matches have some and where they have none
pub texts_in-Some : (found : Found) (id : Text) (texts : List Text) → Some texts ≡ option_map raw_values (matched_of found id) → texts ≡ texts_in id (rows_of found)
texts_in-Some found id texts e = ap (λ (o : Option (List Text)). unwrap_or o []) (e ∙ raw_values-rows found id)

pub texts_in-None : (found : Found) (id : Text) → None ≡ option_map raw_values (matched_of found id) → [] ≡ texts_in id (rows_of found)
texts_in-None found id e = ap (λ (o : Option (List Text)). unwrap_or o []) (e ∙ raw_values-rows found id)
