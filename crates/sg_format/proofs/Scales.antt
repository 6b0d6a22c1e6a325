-- A scale that the payoffs don't fit is refused, and a linear program that is too large.
use Rattle.std.proofs.Common.{◌≡◌, ◌≢◌, ℕ, zero, suc, ◌<◌, ◌≤◌, ◌+◌, ◌-◌, ◌^◌, Bool, true, false, ◌&&◌, int_le, int_lt, List, [], ◌∷◌, length, map, get_or, ℤ, pos, ◌≤ℤ◌, Option, Some, None, Result, Ok, Err, is_some, unwrap_or, refl, sym, ap, subst, ◌∙◌, arith, inl, inr}
use Rattle.std.specs.Prelude.{codes, if◌then◌else◌}
use Rattle.std.specs.List.{All, list_all}
use Rattle.std.proofs.lemmas.Int.{ints}
use Rattle.std.proofs.lemmas.Bool.{cases_Bool, true≢false, and_parts}
use Rattle.toml.specs.Data.{Data, Members, get_member, integer}
use Rattle.sg_model.specs.declared.fault.Place.{Place}
use Rattle.sg_model.specs.declared.fault.Place.TheVariants as place_of
use Rattle.sg_model.specs.declared.fault.GameFault.{GameFault}
use Rattle.sg_model.specs.declared.kind.Kind.TheVariants.{Security}
use Rattle.sg_model.specs.Sums.{nth, positive_part}
use Rattle.sg_model.specs.Games.{Attacker, Game, Payoff, attacker, nobody, nothing, payoff, payoff_of}
use Rattle.sg_model.specs.Limits.{IsGame, IsPayoff, IsSecurityGame, IsWithin, is_scaled}
use Rattle.sg_model.specs.Origami.{IsScaled}
use Rattle.sg_model.proofs.Deciding.{all_pass}
use Rattle.sg_format.specs.Steps.{refused}
use Rattle.sg_model.specs.declared.reason.TheConstants.{BAD_SCALE}
use Rattle.sg_format.specs.Documents.{has_only, integer_at, needed_at, number_at, table_at}
use Rattle.sg_format.specs.Lists.{item_count, names_at, new_name, some_at}
use Rattle.sg_format.specs.Types.{is_security_type_key, pay_table_at, prior_at, security_type_at, security_types_at}
use Rattle.sg_format.specs.GameFiles.{fits_scale, game_of_table, is_patrols_key, limits_of, patrols_game, scale_at}
use Rattle.sg_format.specs.Parts.{DiffersIn, at_key, at_number, of_targets, pay_row, scale, type_pays, typed}
use Rattle.sg_format.specs.PartLaws.{BadScaleIsRefused, payoff_array}
use Rattle.sg_format.proofs.Accepted.{fits_scale-scaled, game_of_table-game}
use Rattle.sg_format.proofs.Inversion.{after, after_test}
use Rattle.sg_format.proofs.Keys.{apart, changed_only}
use Rattle.sg_format.proofs.Shapes.{matrix_form, security_form}
use Rattle.sg_format.proofs.Files.{IsHeaded, IsPatrolsFile, by_file}
use Rattle.sg_format.proofs.Faults.{headed}
use Rattle.sg_format.proofs.Listed.{length-each}
use Rattle.sg_format.proofs.PartFaults.{names_scaled}
use Rattle.sg_format.proofs.SingleChanges.{IsTopChange, top_change}
use Rattle.sg_format.proofs.OtherPayoffs.{each_one, number_right, one_entry, one_type, one_type_set, some_one}

-- the document of a game of patrols, from the values at its keys
pub record IsRead (given : Data) (t : Members) (o : Option Data) (listed attackers : Data) (targets : List (List ℕ)) (z : Option ℤ) (count : ℤ) (types : List Attacker) : Type 0 where
  pub keys : has_only is_patrols_key t ≡ true
  pub targets_there : get_member (codes "targets") t ≡ Some listed
  pub types_there : get_member (codes "type") t ≡ Some attackers
  pub scale_there : get_member (codes "scale") t ≡ o
  pub targets_read : names_at place_of.Document place_of.Target (if is_some o then 10000 else 200) listed ≡ Ok targets
  pub scale_read : scale_at o ≡ Ok z
  pub count_read : number_at place_of.Document (pos 0) (pos (if is_some o then 200 else 32)) given ≡ Ok count
  pub types_read : security_types_at (is_some o) (length targets) attackers ≡ Ok types

-- the game of those values
abbrev pub read_game : List (List ℕ) → Option ℤ → ℤ → List Attacker → Game
read_game targets z count types = record {
  kind = Security;
  scale = unwrap_or z (pos 0);
  patrols = Some (positive_part count);
  goals = targets;
  schedules = [];
  resources = [];
  types = types;
}

-- where all values are right, the limits decide
pub limits_fail : (given : Data) (t : Members) (o : Option Data) (listed attackers : Data) (targets : List (List ℕ)) (z : Option ℤ) (count : ℤ) (types : List Attacker) (fault : GameFault)
    → IsRead given t o listed attackers targets z count types → limits_of (read_game targets z count types) (is_some o) ≡ Err fault → patrols_game given t ≡ Err fault
unfolding patrols_game
limits_fail given t o listed attackers targets z count types fault h f =
    let a = h.keys in
    let b = h.targets_there in
    let c = h.types_there in
    let s = h.scale_there in
    let n = h.targets_read in
    let q = h.scale_read in
    let m = h.count_read in
    let u = h.types_read in
    rw (a, b, c, s, n, q, m, u, f) refl

unscaled_fails : (g : Game) (k l : ℕ) → k < length g.types → l < length (get_or g.types k nobody).payoffs → ¬ (IsScaled g.scale (get_or (get_or g.types k nobody).payoffs l nothing))
    → limits_of g true ≡ refused BAD_SCALE (place_of.Attacker 1)
unfolding limits_of
unscaled_fails g k l one within off =
    let fit : Attacker → Bool = λ x. list_all (fits_scale g.scale) x.payoffs in
    elim (cases_Bool (list_all fit g.types)) [
      | inl all ↦ absurd (
          let each_fits = all_pass (λ (x : Attacker). All (IsScaled g.scale) x.payoffs) fit (λ x. all_pass (IsScaled g.scale) (fits_scale g.scale) (fits_scale-scaled g.scale) x.payoffs) g.types all in
          off (each_fits k nobody one l nothing within))
      | inr some ↦ rw some refl
    ]

scale_right : (z : ℤ) → IsWithin (pos 1) (pos (2 ^ 32)) z → scale_at (Some (integer z)) ≡ Ok (Some z)
unfolding scale_at
scale_right z is = let n = number_right place_of.Document (pos 1) (pos (2 ^ 32)) z is in rw n refl

-- a number within a range is within a wider one
number_more : (place : Place) (low high more : ℤ) (value : Data) (z : ℤ) → high ≤ℤ more → number_at place low high value ≡ Ok z → number_at place low more value ≡ Ok z
unfolding number_at
number_more place low high more value z wide h =
    after (integer_at place value) h (λ n e rest.
    after_test (int_le low n && int_le n high) _ _ rest (λ test last.
    let q = and_parts (int_le low n) (int_le n high) test in
    let a = q.0 in
    let b : int_le n more ≡ true = sym (omega (arith, ints, q.1, wide)) in
    rw (e, a, b) last))

count_scaled : (scaled : Bool) (given : Data) (count : ℤ) → number_at place_of.Document (pos 0) (pos (if scaled then 200 else 32)) given ≡ Ok count
    → number_at place_of.Document (pos 0) (pos 200) given ≡ Ok count
count_scaled true given count h = h
count_scaled false given count h = number_more place_of.Document (pos 0) (pos 32) (pos 200) given count (omega (arith, ints)) h

-- a prior of 1 is right with a scale too
prior_scaled : (place : Place) (value : Data) (z : ℤ) → prior_at place false value ≡ Ok z → z ≡ pos 1 → prior_at place true value ≡ Ok z
unfolding number_at
prior_scaled place value z h one =
    after (integer_at place value) h (λ n e rest.
    after_test (int_le (pos 1) n && int_le n (pos (2 ^ 20))) _ _ rest (λ test last.
    let same : n ≡ z = cc in
    let a : int_le (pos 1) n ≡ true = sym (omega (arith, ints, same, one)) in
    let b : int_le n (pos 1) ≡ true = sym (omega (arith, ints, same, one)) in
    rw (e, a, b) last))

type_scaled : (place : Place) (targets : ℕ) (others : List Attacker) (value : Data) (x : Attacker) → security_type_at place false targets others value ≡ Ok x → x.prior ≡ pos 1
    → security_type_at place true targets others value ≡ Ok x
unfolding security_type_at
type_scaled place targets others value x h one =
    after (table_at place value) h (λ t e1 h1.
    after_test (has_only is_security_type_key t) _ _ h1 (λ e2 h2.
    after (needed_at place (codes "name") t) h2 (λ own e3 h3.
    after (needed_at place (codes "prior") t) h3 (λ weight e4 h4.
    after (needed_at place (codes "payoffs") t) h4 (λ listed e5 h5.
    after (new_name place (map (λ (x : Attacker). x.name) others) own) h5 (λ text e6 h6.
    after (prior_at place false weight) h6 (λ prior e7 h7.
    after (pay_table_at place targets 4 listed) h7 (λ rows e8 last.
    let y : Attacker = record { name = text; prior = prior; payoffs = map payoff_of rows; actions = []; leader = []; follower = [] } in
    let same : y ≡ x = cc in
    let is_one : prior ≡ pos 1 = ap (λ (x : Attacker). x.prior) same ∙ one in
    let scaled = prior_scaled place weight prior e7 is_one in
    rw (e1, e2, e3, e4, e5, e6, scaled, e8) last))))))))

types_false : (targets : ℕ) (value : Data) (types : List Attacker) → security_types_at false targets value ≡ Ok types → length types ≡ 1 → (nth types 1 nobody).prior ≡ pos 1
    → security_types_at true targets value ≡ Ok types
unfolding security_types_at
types_false targets value types h count prior =
    after (some_at place_of.Document 8 value) h (λ items e rest.
    let plain : List Attacker → Data → Result Attacker GameFault = λ others. security_type_at (place_of.Attacker (length others + 1)) false targets others in
    let read : List Attacker → Data → Result Attacker GameFault = λ others. security_type_at (place_of.Attacker (length others + 1)) true targets others in
    let size : item_count items ≡ 1 = omega (arith, count, length-each plain [] items types rest) in
    let one = one_entry plain items types rest size in
    let is_one : one.value.prior ≡ pos 1 = rw one.all at prior in
    let first = type_scaled (place_of.Attacker 1) targets [] one.entry one.value one.first is_one in
    let few = some_one place_of.Document value items e size in
    one_type targets value items types one.entry one.value few one.is one.all (each_one read one.entry one.value first))

types_scaled : (scaled : Bool) (targets : ℕ) (value : Data) (types : List Attacker) → security_types_at scaled targets value ≡ Ok types → length types ≡ 1 → (nth types 1 nobody).prior ≡ pos 1
    → security_types_at true targets value ≡ Ok types
types_scaled true targets value types h count prior = h
types_scaled false targets value types h count prior = types_false targets value types h count prior

-- the payoffs of a target of the first type stand in its list
payoff_there : (g : Game) (t : ℕ) → IsSecurityGame g → length g.types ≡ 1 → 1 ≤ t → t ≤ length g.goals → (z : ℤ) → ¬ (IsScaled z (payoff g 1 t))
    → (t - 1 < length (get_or g.types 0 nobody).payoffs) × (¬ (IsScaled z (get_or (get_or g.types 0 nobody).payoffs (t - 1) nothing)))
payoff_there g zero is one low high z off = absurd (omega (arith, low))
payoff_there g (suc k) is one low high z off =
    let each = is.each_type 0 nobody (omega (arith, one)) in
    let size = each.one_each in
    let same : suc k - 1 ≡ k = omega arith in
    (omega (arith, size, high), rw same off)

declared_fails : (first second : Members) (g : Game) (given : Data) (z : ℤ) (t : ℕ) → IsGame g → IsHeaded first Security → get_member (codes "patrols") first ≡ Some given → IsPatrolsFile given first g
    → IsTopChange (codes "scale") [] (integer z) first second → length g.types ≡ 1 → (attacker g 1).prior ≡ pos 1 → IsWithin (pos 1) (pos (2 ^ 32)) z → 1 ≤ t → t ≤ length g.goals
    → ¬ (IsScaled z (payoff g 1 t)) → game_of_table second ≡ refused BAD_SCALE (place_of.Attacker 1)
declared_fails first second g given z t is head there p c one prior within low high off =
    let key = codes "scale" in
    let d = c.differs in
    let declared = get_member key first in
    let value : c.new ≡ integer z = c.change in
    let still = d.elsewhere (codes "patrols") (apart (codes "patrols") key refl) ∙ there in
    let read : IsRead given second (Some (integer z)) p.listed p.attackers g.goals (Some z) p.count g.types = record {
      keys = changed_only is_patrols_key key (Some c.new) first second d refl p.known;
      targets_there = d.elsewhere (codes "targets") (apart (codes "targets") key refl) ∙ p.targets_there;
      types_there = d.elsewhere (codes "type") (apart (codes "type") key refl) ∙ p.types_there;
      scale_there = d.here ∙ ap (λ (x : Data). Some x) value;
      targets_read = names_scaled (is_some declared) place_of.Document place_of.Target p.listed g.goals p.targets;
      scale_read = scale_right z within;
      count_read = count_scaled (is_some declared) given p.count p.count_read;
      types_read = types_scaled (is_some declared) (length g.goals) p.attackers g.types p.types one prior;
    } in
    let at = payoff_there g t (security_form g is p.kind) one low high z off in
    let fails = unscaled_fails (read_game g.goals (Some z) p.count g.types) 0 (t - 1) (omega (arith, one)) at.0 at.1 in
    headed key (Some c.new) first second Security d head (apart (codes "version") key refl) (apart (codes "form") key refl)
    ∙ (rw still (limits_fail given second (Some (integer z)) p.listed p.attackers g.goals (Some z) p.count g.types (record { reason = BAD_SCALE; place = place_of.Attacker 1 }) read fails))

declared_scale : (first second : Members) (g : Game) (z : ℤ) (t : ℕ) → game_of_table first ≡ Ok g → DiffersIn g scale (integer z) first second → g.patrols ≢ None
    → length g.types ≡ 1 → (attacker g 1).prior ≡ pos 1 → IsWithin (pos 1) (pos (2 ^ 32)) z → 1 ≤ t → t ≤ length g.goals → ¬ (IsScaled z (payoff g 1 t))
    → game_of_table second ≡ refused BAD_SCALE (place_of.Attacker 1)
declared_scale first second g z t h d some one prior within low high off =
    let is = game_of_table-game first g h in
    by_file first g (game_of_table second ≡ refused BAD_SCALE (place_of.Attacker 1)) h
    (λ head m. absurd (some (matrix_form g is m.kind).no_patrols))
    (λ head given there p. declared_fails first second g given z t is head there p (top_change (codes "scale") [] (integer z) first second d) one prior within low high off)
    (λ head there l. absurd (some l.no_patrols))

types_on : (scaled : Bool) (targets : ℕ) (value : Data) (types : List Attacker) → scaled ≡ true → security_types_at true targets value ≡ Ok types → security_types_at scaled targets value ≡ Ok types
types_on scaled targets value types on h = rw on h

limits_on : (g : Game) (scaled : Bool) → scaled ≡ true → limits_of g true ≡ refused BAD_SCALE (place_of.Attacker 1) → limits_of g scaled ≡ refused BAD_SCALE (place_of.Attacker 1)
limits_on g scaled on h = rw on h

off_at : (a b : ℤ) (p q : Payoff) → a ≡ b → q ≡ p → ¬ (IsScaled a p) → ¬ (IsScaled b q)
off_at a b p q e f off = λ is. off (subst (λ (z : ℤ). IsScaled z p) (sym e) (subst (IsScaled b) f is))

payoffs_fail : (first second : Members) (g : Game) (given : Data) (t : ℕ) (p : Payoff) → IsHeaded first Security → get_member (codes "patrols") first ≡ Some given → IsPatrolsFile given first g
    → is_scaled g ≡ true → IsTopChange (codes "type") (at_number 1 ∷ at_key (codes "payoffs") ∷ at_number t ∷ []) (payoff_array p) first second → IsPayoff p → ¬ (IsScaled g.scale p)
    → game_of_table second ≡ refused BAD_SCALE (place_of.Attacker 1)
payoffs_fail first second g given t p head there f scaled c is off =
    let key = codes "type" in
    let d = c.differs in
    let declared = get_member (codes "scale") first in
    let on : is_some declared ≡ true = sym f.scaled ∙ scaled in
    let still = d.elsewhere (codes "patrols") (apart (codes "patrols") key refl) ∙ there in
    let made = one_type_set (length g.goals) f.attackers c.new g.types p t (rw on at f.types) (rw f.types_there at c.change) is in
    let game = read_game g.goals f.scale f.count (made.attacker ∷ []) in
    let read : IsRead given second declared f.listed c.new g.goals f.scale f.count (made.attacker ∷ []) = record {
      keys = changed_only is_patrols_key key (Some c.new) first second d refl f.known;
      targets_there = d.elsewhere (codes "targets") (apart (codes "targets") key refl) ∙ f.targets_there;
      types_there = d.here;
      scale_there = d.elsewhere (codes "scale") (apart (codes "scale") key refl);
      targets_read = f.targets;
      scale_read = f.scale_read;
      count_read = f.count_read;
      types_read = types_on (is_some declared) (length g.goals) c.new (made.attacker ∷ []) on made.is;
    } in
    let same_scale : g.scale ≡ unwrap_or f.scale (pos 0) = f.scale_is in
    let off_there = off_at g.scale (unwrap_or f.scale (pos 0)) p (get_or made.attacker.payoffs made.index nothing) same_scale made.there off in
    let fails : limits_of game true ≡ refused BAD_SCALE (place_of.Attacker 1) = unscaled_fails game 0 made.index (omega arith) made.within off_there in
    headed key (Some c.new) first second Security d head (apart (codes "version") key refl) (apart (codes "form") key refl)
    ∙ (rw still (limits_fail given second declared f.listed c.new g.goals f.scale f.count (made.attacker ∷ []) (record { reason = BAD_SCALE; place = place_of.Attacker 1 }) read (limits_on game (is_some declared) on fails)))

scale_off : (g : Game) → g.scale ≡ pos 0 → is_scaled g ≡ false
scale_off g e = ap (int_lt (pos 0)) e

other_payoffs_scale : (first second : Members) (g : Game) (t : ℕ) (p : Payoff) → game_of_table first ≡ Ok g → is_scaled g ≡ true
    → DiffersIn g (typed 1 (type_pays of_targets (pay_row t))) (payoff_array p) first second → IsPayoff p → ¬ (IsScaled g.scale p) → game_of_table second ≡ refused BAD_SCALE (place_of.Attacker 1)
other_payoffs_scale first second g t p h scaled d is off =
    let game = game_of_table-game first g h in
    by_file first g (game_of_table second ≡ refused BAD_SCALE (place_of.Attacker 1)) h
    (λ head m. absurd (true≢false (sym scaled ∙ scale_off g (matrix_form g game m.kind).no_scale)))
    (λ head given there f. payoffs_fail first second g given t p head there f scaled
    (top_change (codes "type") (at_number 1 ∷ at_key (codes "payoffs") ∷ at_number t ∷ []) (payoff_array p) first second d) is off)
    (λ head there l. absurd (true≢false (sym scaled ∙ scale_off g l.scale_is)))

pub scales : BadScaleIsRefused
scales = record { declared = declared_scale; payoffs = other_payoffs_scale }
