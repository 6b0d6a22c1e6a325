-- The documents of small games, written out by hand.
use Rattle.std.specs.Prelude.{◌≡◌, [], ◌∷◌, codes, pos}
use Rattle.toml.specs.Data.{Members, no_members, member, integer, string, table}
use Rattle.sg_model.specs.Examples.{minus, one_player, two_targets}
use Rattle.sg_format.specs.FaultExamples.{four, listed, named_file, one_thief, patrol_file, two_names, two_payoffs, type_of}
use Rattle.sg_format.specs.GameTextLaws.{one_block}
use Rattle.sg_document_laws.specs.Documents.{game_table}
use Rattle.sg_document_laws.specs.Tables.{named_data}

-- two targets, and one resource that takes the first, the second or both
abbrev pub block_file : Members
block_file =
    member (codes "form") (string (codes "security")) (
    member (codes "resource") (listed (named_file (codes "schedules") (string (codes "r1")) (string (codes "s1") ∷ string (codes "s2") ∷ string (codes "s3") ∷ []) ∷ [])) (
    member (codes "schedule") (listed (
    named_file (codes "targets") (string (codes "s1")) (string (codes "t1") ∷ [])
    ∷ named_file (codes "targets") (string (codes "s2")) (string (codes "t2") ∷ [])
    ∷ named_file (codes "targets") (string (codes "s3")) (string (codes "t1") ∷ string (codes "t2") ∷ [])
    ∷ [])) (
    member (codes "targets") (listed (string (codes "t1") ∷ string (codes "t2") ∷ [])) (
    member (codes "type") (listed (
    type_of (string (codes "a1")) (integer (pos 1)) (four (pos 0) (minus 1) (pos 0) (pos 1) ∷ four (pos 0) (minus 1) (pos 0) (pos 1) ∷ [])
    ∷ [])) (
    member (codes "version") (integer (pos 1))
    no_members)))))

-- one type with two actions against two rows
abbrev pub player_file : Members
player_file =
    member (codes "form") (string (codes "matrix")) (
    member (codes "rows") (listed two_names) (
    member (codes "type") (listed (table (
    member (codes "actions") (listed two_names) (
    member (codes "follower") (listed (listed (integer (pos 1) ∷ integer (pos 0) ∷ []) ∷ listed (integer (pos 0) ∷ integer (pos 2) ∷ []) ∷ [])) (
    member (codes "leader") (listed (listed (integer (pos 2) ∷ integer (pos 4) ∷ []) ∷ listed (integer (pos 1) ∷ integer (pos 3) ∷ []) ∷ [])) (
    member (codes "name") (string (codes "first")) (
    member (codes "prior") (integer (pos 1))
    no_members)))))
    ∷ [])) (
    member (codes "version") (integer (pos 1))
    no_members)))

-- the documents, and the table of a schedule with a member that numbers nothing
pub record WorkedDocuments : Type 0 where
  pub scaled : game_table two_targets ≡ patrol_file two_names (pos 4) (one_thief two_payoffs)
  pub block : game_table one_block ≡ block_file
  pub matrix : game_table one_player ≡ player_file
  pub stray : named_data (codes "targets") (codes "a" ∷ codes "b" ∷ []) (codes "s") (1 ∷ 3 ∷ []) ≡ named_file (codes "targets") (string (codes "s")) (string (codes "a") ∷ string [] ∷ [])
