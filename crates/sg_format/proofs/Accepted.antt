-- The game of an accepted file keeps every promise of a game file.
use Rattle.std.proofs.Common.{◌≡◌, ℕ, ◌≤◌, Bool, true, false, ◌&&◌, nat_le, int_lt, int_rem, List, length, map, ℤ, pos, negsuc, ◌≤ℤ◌, is_some, unwrap_or, Ok, refl, sym, ap, subst, ◌∙◌, arith}
use Rattle.std.specs.Prelude.{codes, if◌then◌else◌}
use Rattle.std.specs.List.{All, list_all}
use Rattle.std.proofs.lemmas.Int.{ints}
use Rattle.std.proofs.lemmas.Bool.{and_parts, eqb-true}
use Rattle.std.proofs.lemmas.List.{length-map}
use Rattle.toml.specs.Data.{Data, Members, get_member}
use Rattle.sg_model.specs.declared.fault.Place.TheVariants as place_of
use Rattle.sg_model.specs.Games.{Attacker, Game, Named, Payoff}
use Rattle.sg_model.specs.Origami.{IsScaled, gap}
use Rattle.sg_model.specs.Limits.{AreLists, IsGame, IsMatrixGame, IsSecurityGame, IsWithin, program_rows}
use Rattle.sg_model.proofs.Deciding.{all_pass, at_most}
use Rattle.sg_format.specs.Documents.{document_of}
use Rattle.sg_model.specs.Sums.{positive_part}
use Rattle.sg_format.specs.GameFiles.{fits_scale, game_of_bytes, game_of_table, is_zero, limits_of}
use Rattle.sg_format.proofs.Inversion.{after, passed_is}
use Rattle.sg_format.proofs.Values.{number_at-within, scale_at-scale}
use Rattle.sg_format.proofs.Files.{IsListedFile, IsMatrixFile, IsPatrolsFile, by_file, patrolled, scheduled, tabled}
use Rattle.sg_format.proofs.Listed.{names_at-names, named_lists_at-lists}
use Rattle.sg_format.proofs.Typed.{matrix_types_at-types, security_types_at-types}
use Rattle.sg_format.specs.GameFileLaws.{AcceptedIsGame}

zero_is : (z : ℤ) → is_zero z ≡ true → z ≡ pos 0
zero_is (pos n) e = ap (λ (k : ℕ). pos k) (eqb-true n 0 e)
zero_is (negsuc n) e = absurd (cc)

pub fits_scale-scaled : (scale : ℤ) (p : Payoff) → fits_scale scale p ≡ true → IsScaled scale p
fits_scale-scaled scale p e =
    let q = and_parts (int_lt p.du p.dc && int_lt p.ac p.au) (is_zero (int_rem scale (gap p))) e in
    let r = and_parts (int_lt p.du p.dc) (int_lt p.ac p.au) q.0 in
    record { defender_gains = omega (arith, ints, r.0); attacker_loses = omega (arith, ints, r.1); divides = zero_is (int_rem scale (gap p)) q.1 }

-- the limits of the game: with a scale its payoffs fit, and without one its program is small
record IsLimited (g : Game) (scaled : Bool) : Type 0 where
  fits : scaled ≡ true → All (λ (x : Attacker). All (IsScaled g.scale) x.payoffs) g.types
  small : scaled ≡ false → program_rows g ≤ 1536

limits_of-limited : (g : Game) (scaled : Bool) (u : Unit {0}) → limits_of g scaled ≡ Ok u → IsLimited g scaled
unfolding limits_of
limits_of-limited g true u h =
    let fit : Attacker → Bool = λ x. list_all (fits_scale g.scale) x.payoffs in
    let test = passed_is (list_all fit g.types) _ _ u h in
    record {
      fits = λ e. all_pass (λ (x : Attacker). All (IsScaled g.scale) x.payoffs) fit (λ x. all_pass (IsScaled g.scale) (fits_scale g.scale) (fits_scale-scaled g.scale) x.payoffs) g.types test;
      small = λ e. absurd (cc);
    }
limits_of-limited g false u h = record { fits = λ e. absurd (cc); small = λ e. at_most (passed_is (nat_le (program_rows g) 1536) _ _ u h) }

count_of-le : (z : ℤ) (n : ℕ) → z ≤ℤ pos n → positive_part z ≤ n
count_of-le (pos m) n h = omega (arith, ints, h)
count_of-le (negsuc m) n h = omega arith

few_patrols : (scaled : Bool) (z : ℤ) → IsWithin (pos 0) (pos (if scaled then 200 else 32)) z → positive_part z ≤ (if scaled then 200 else 32)
few_patrols scaled z h = count_of-le z (if scaled then 200 else 32) h.at_most

scale_off : (scaled : Bool) (z : ℤ) → int_lt (pos 0) z ≡ scaled → z ≡ pos 0 → scaled ≡ false
scale_off scaled z e zero = sym e ∙ ap (int_lt (pos 0)) zero

scale_on : (scaled : Bool) (z : ℤ) → int_lt (pos 0) z ≡ scaled → pos 1 ≤ℤ z → scaled ≡ true
scale_on scaled z e low = let yes : true ≡ int_lt (pos 0) z = omega (arith, ints, low) in sym (yes ∙ e)

patrols_promised : (given : Data) (table : Members) (g : Game) → IsPatrolsFile given table g → IsGame g
patrols_promised given table g p =
    let scaled : Bool = is_some (get_member (codes "scale") table) in
    let y = patrolled (unwrap_or p.scale (pos 0)) (positive_part p.count) g.goals g.types in
    let names = names_at-names place_of.Document place_of.Target (if scaled then 10000 else 200) p.listed g.goals p.targets in
    let is_scale = scale_at-scale (get_member (codes "scale") table) p.scale p.scale_read in
    let count = few_patrols scaled p.count (number_at-within place_of.Document (pos 0) (pos (if scaled then 200 else 32)) given p.count p.count_read) in
    let people = security_types_at-types scaled (length g.goals) p.attackers g.types p.types in
    let limited = limits_of-limited y scaled tt p.limits in
    let is : IsSecurityGame y = record {
      targets = names.apart;
      target_count = rw is_scale.is names.count;
      scale_range = is_scale.range;
      defended = record { few = rw is_scale.is count; no_schedules = refl; no_resources = refl };
      types = people.apart;
      each_type = people.all;
      few_rows = λ zero. limited.small (scale_off scaled y.scale is_scale.is zero);
      scaled = λ positive. (
          let yes = scale_on scaled y.scale is_scale.is positive in
          record { identical = λ none. absurd (cc); one_type = people.one_type yes; prior_one = people.prior_one yes; targets = limited.fits yes });
    } in
    subst IsGame p.whole is

listed_promised : (table : Members) (g : Game) → IsListedFile table g → IsGame g
listed_promised table g l =
    let y = scheduled g.goals g.schedules g.resources g.types in
    let names = names_at-names place_of.Document place_of.Target 200 l.listed g.goals l.targets in
    let people = security_types_at-types false (length g.goals) l.attackers g.types l.types in
    let held = named_lists_at-lists place_of.Schedule (codes "targets") g.goals 500 200 l.given g.schedules l.schedules in
    let known : List (List ℕ) = map (λ (x : Named). x.name) g.schedules in
    let hands = named_lists_at-lists place_of.Resource (codes "schedules") known 32 500 l.manned g.resources l.resources in
    let is : IsSecurityGame y = record {
      targets = names.apart;
      target_count = names.count;
      scale_range = record { at_least = omega (arith, ints); at_most = omega (arith, ints) };
      defended = record { schedules = held; resources = subst (λ (n : ℕ). AreLists n 32 500 g.resources) (length-map g.schedules (λ (x : Named). x.name)) hands };
      types = people.apart;
      each_type = people.all;
      few_rows = λ zero. (limits_of-limited y false tt l.limits).small refl;
      scaled = λ positive. absurd (omega (arith, ints, positive));
    } in
    subst IsGame l.whole is

matrix_promised : (table : Members) (g : Game) → IsMatrixFile table g → IsGame g
matrix_promised table g m =
    let y = tabled g.goals g.types in
    let names = names_at-names place_of.Document place_of.Row 4096 m.listed g.goals m.rows in
    let people = matrix_types_at-types (length g.goals) m.attackers g.types m.types in
    let is : IsMatrixGame y = record {
      rows = names.apart;
      row_count = names.count;
      no_scale = refl;
      no_patrols = refl;
      no_schedules = refl;
      no_resources = refl;
      types = people.apart;
      each_type = people.all;
      few_rows = (limits_of-limited y false tt m.limits).small refl;
    } in
    subst IsGame m.whole is

pub game_of_table-game : (table : Members) (g : Game) → game_of_table table ≡ Ok g → IsGame g
game_of_table-game table g h =
    by_file table g (IsGame g) h (λ head m. matrix_promised table g m) (λ head given there p. patrols_promised given table g p) (λ head there l. listed_promised table g l)

-- the game of a file's bytes keeps every promise of a game file
pub accepted : AcceptedIsGame
unfolding game_of_bytes
accepted bytes g h = after (document_of bytes) h (λ table e last. game_of_table-game table g last)
