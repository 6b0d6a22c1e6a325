-- What a parse finds or refuses are the arguments that the definition gives.
use Rattle.std.proofs.Common.{◌≡◌, ◌∙◌, Bool, true, false, List, [], ◌∷◌, Option, Some, None, refl, sym, ap, subst, inl, inr}
use Rattle.std.specs.Prelude.{◌⊎◌, fold, option_map, option_and_then, bytes_eq}
use Rattle.std.specs.List.{list_all}
use Rattle.clap.specs.Walk.{Row, idle}
use Rattle.clap.specs.Simple.{App, is_simple, subcommand_of}
use Rattle.clap.specs.Kinds.{Kinds, IsAmong}
use Rattle.clap.specs.Faults.{fault_of, is_simple_and_free}
use Rattle.clap.specs.declared.error.kind.ErrorKind.{ErrorKind}
use Rattle.clap.specs.declared.error.kind.ErrorKind.TheVariants.{OutOfMemory}
use Rattle.sg_words.specs.Words.{Text, Piece, pieces_of}
use Rattle.sg_words.specs.Usages.{Usage, option_names, arguments_of, arguments_given, is_option_name}
use Rattle.sg_words.specs.Stray.{has_stray}
use Rattle.sg_words.specs.Line.{line, arguments_in}
use Rattle.sg_words.proofs.Rules.{leaf, line_is_simple, line_is_free}
use Rattle.sg_words.proofs.Rest.{rest_fault, rest_rows}
use Rattle.sg_words.proofs.Turns.{stands, rested}
use Rattle.sg_words.proofs.Finds.{Meets, with_row, leaf_meets, pieces_of-stray}
use Rattle.sg_words.proofs.Texts.{apart_names, arguments_in-pieces}
use Rattle.sg_words.proofs.Top.{fault_of-line, subcommand_of-line}

module _ (usage : Usage) (words : List Text) (all : list_all is_option_name (option_names usage) ≡ true) where
  abbrev fault : Kinds
  fault = rest_fault (leaf usage.name (option_names usage)) (stands (rested []) idle false) words

  abbrev rows : List Row
  rows = rest_rows (leaf usage.name (option_names usage)) (stands (rested []) idle false) words

  meets : has_stray (option_names usage) words ≡ false → Meets [] (pieces_of (option_names usage) words None) fault rows
  meets kept = leaf_meets usage.name (option_names usage) (apart_names (option_names usage) all) words kept

  found : (pieces : Option (List Piece)) → Meets [] pieces fault rows → fault ≡ [] → arguments_in usage rows ≡ option_and_then (arguments_of usage) pieces
  found None h none = absurd (h none)
  found (Some pieces) h none = ap (arguments_in usage) h.1 ∙ arguments_in-pieces usage pieces all h.2

  refused : (pieces : Option (List Piece)) (kind : ErrorKind) → Meets [] pieces fault rows → IsAmong kind fault → None ≡ option_and_then (arguments_of usage) pieces
  refused None kind h among = refl
  refused (Some pieces) kind h among = absurd (subst (λ (ks : Kinds). IsAmong kind ks) h.0 among)

  -- a stray word gives no arguments
  pub arguments_given-stray : has_stray (option_names usage) words ≡ true → None ≡ arguments_given usage words
  arguments_given-stray stray = sym (ap (option_and_then (arguments_of usage)) (pieces_of-stray (option_names usage) words stray))

  module _ (call : List Text) (call_is : call ≡ usage.name ∷ words) (a : App) (same : a ≡ line usage.name (option_names usage)) (kept : has_stray (option_names usage) words ≡ false) where
    -- a parse that succeeds finds them
    pub arguments_given-parsed : (entered : Option (Text × List Row)) (found_rows : List Row)
        → (is_simple_and_free a ≡ true → fault_of a call ≡ []) → (is_simple a ≡ true → entered ≡ subcommand_of a call)
        → Some found_rows ≡ option_map (λ (p : Text × List Row). p.1) entered → arguments_in usage found_rows ≡ arguments_given usage words
    arguments_given-parsed entered found_rows faultless entered_so is =
        let none : fault ≡ [] = sym (fault_of-line usage.name (option_names usage) words) ∙ sym (ap (λ (x : App). fault_of x (usage.name ∷ words)) same)
        ∙ sym (ap (fault_of a) call_is) ∙ faultless (ap is_simple_and_free same ∙ line_is_free usage.name (option_names usage)) in
        let entered_is : entered ≡ Some (usage.name, rows) = entered_so (ap is_simple same ∙ line_is_simple usage.name (option_names usage))
        ∙ ap (subcommand_of a) call_is ∙ ap (λ (x : App). subcommand_of x (usage.name ∷ words)) same ∙ subcommand_of-line usage.name (option_names usage) words in
        let rows_are : Some found_rows ≡ Some rows = is ∙ ap (option_map (λ (p : Text × List Row). p.1)) entered_is in
        let rows_is : found_rows ≡ rows = cc in
        ap (arguments_in usage) rows_is ∙ found (pieces_of (option_names usage) words None) (meets kept) none

    -- a parse that enters no command hasn't succeeded
    pub entered-parsed : (entered : Option (Text × List Row)) → (is_simple a ≡ true → entered ≡ subcommand_of a call)
        → None ≡ option_map (λ (p : Text × List Row). p.1) entered → ⊥
    entered-parsed entered entered_so is =
        let entered_is : entered ≡ Some (usage.name, rows) = entered_so (ap is_simple same ∙ line_is_simple usage.name (option_names usage))
        ∙ ap (subcommand_of a) call_is ∙ ap (λ (x : App). subcommand_of x (usage.name ∷ words)) same ∙ subcommand_of-line usage.name (option_names usage) words in
        let bad : None ≡ Some rows = is ∙ ap (option_map (λ (p : Text × List Row). p.1)) entered_is in
        absurd cc

    -- one that fails, and not for memory, finds none
    pub arguments_given-failed : (kind : ErrorKind) → (is_simple_and_free a ≡ true → (kind ≡ OutOfMemory) ⊎ IsAmong kind (fault_of a call))
        → (kind ≡ OutOfMemory → ⊥) → None ≡ arguments_given usage words
    arguments_given-failed kind faults no_memory = go (faults (ap is_simple_and_free same ∙ line_is_free usage.name (option_names usage)))
      where
        go : (kind ≡ OutOfMemory) ⊎ IsAmong kind (fault_of a call) → None ≡ arguments_given usage words
        go (inl memory) = absurd (no_memory memory)
        go (inr among) = refused (pieces_of (option_names usage) words None) kind (meets kept)
            (subst (λ (ks : Kinds). IsAmong kind ks) (ap (fault_of a) call_is ∙ ap (λ (x : App). fault_of x (usage.name ∷ words)) same ∙ fault_of-line usage.name (option_names usage) words) among)
