-- Lists that grow by one.
use Rattle.std.proofs.Common.{◌≡◌, ◌∙◌, ℕ, zero, suc, ◌+◌, List, [], ◌∷◌, ◌++◌, length, map, sym, ap, refl, arith, append_assoc, flat_map}
use Rattle.std.specs.Prelude.{Vec, String, string_bytes}
use Rattle.std.specs.declared.alloc.Global.{Global}
use Rattle.std.proofs.lemmas.List.{append-nil, length-map}
use Rattle.std.proofs.lemmas.Grind.{flat_map-append}
use Rattle.sg_game.specs.declared.parts.ListParts.{ListParts}
use Rattle.sg_game.specs.Seen.{named_of}
use Rattle.sg_gen.specs.Making.{member_lists}
use Rattle.sg_model.specs.Games.{Named}
use Rattle.sg_model.specs.Sums.{numbers_from}
use Rattle.sg_gen.specs.Generated.{named_lists, numbered}

pub numbers_from-more : (a n : ℕ) → numbers_from a (n + 1) ≡ numbers_from a n ++ (a + n) ∷ []
numbers_from-more a zero = let e : a ≡ a + 0 = omega arith in ap (λ (k : ℕ). k ∷ []) e
numbers_from-more a (suc n) =
    let e : suc n + 1 ≡ suc (n + 1) = omega arith in
    let f : a + 1 + n ≡ a + suc n = omega arith in
    rw e (ap (λ (xs : List ℕ). a ∷ xs) (numbers_from-more (a + 1) n ∙ ap (λ (k : ℕ). numbers_from (a + 1) n ++ k ∷ []) f))

pub map-push : {X Y : Type 0} (f : X → Y) (xs : List X) (x : X) → map f (xs ++ x ∷ []) ≡ map f xs ++ f x ∷ []
map-push f [] x = refl
map-push f (y ∷ ys) x = ap (λ zs. f y ∷ zs) (map-push f ys x)

pub mapped-more : {X : Type 0} (f : ℕ → X) (a n : ℕ) → map f (numbers_from a (n + 1)) ≡ map f (numbers_from a n) ++ f (a + n) ∷ []
mapped-more f a n = ap (map f) (numbers_from-more a n) ∙ map-push f (numbers_from a n) (a + n)

-- a list seen item by item, with one item more
pub seen-more : {X Y : Type 0} (see : X → Y) (f : ℕ → Y) (a n : ℕ) (xs ys : List X) (x : X) → map see xs ≡ map f (numbers_from a n) → ys ≡ xs ++ x ∷ [] → see x ≡ f (a + n) → map see ys ≡ map f (numbers_from a (n + 1))
seen-more see f a n xs ys x h e s =
    ap (map see) e ∙ (map-push see xs x ∙ (rw (h, s) (sym (mapped-more f a n))))

pub named-more : (front : List ℕ) (k : ℕ) (lists : List (List ℕ)) (members : List ℕ) → named_lists front k (lists ++ members ∷ []) ≡ named_lists front k lists ++ (record { name = numbered front (k + length lists); members = members }) ∷ []
named-more front k [] members = let e : k ≡ k + 0 = omega arith in ap (λ (m : ℕ). (let x : Named = record { name = numbered front m; members = members } in x) ∷ []) e
named-more front k (ms ∷ rest) members =
    let e : k + 1 + length rest ≡ k + suc (length rest) = omega arith in
    ap (λ (xs : List Named). (let x : Named = record { name = numbered front k; members = ms } in x) ∷ xs)
    (named-more front (k + 1) rest members ∙ ap (λ (m : ℕ). named_lists front (k + 1) rest ++ (let x : Named = record { name = numbered front m; members = members } in x) ∷ []) e)

pub named-count : (front : List ℕ) (k : ℕ) (lists : List (List ℕ)) → length (named_lists front k lists) ≡ length lists
named-count front k [] = refl
named-count front k (ms ∷ rest) = ap suc (named-count front (k + 1) rest)

-- one list with its name more
pub lists-named : (front : List ℕ) (named after : List ListParts) (lists : List (Vec ℕ Global)) (members : Vec ℕ Global) (name : String Global) (count : ℕ) → map named_of named ≡ named_lists front 1 (member_lists lists)
    → after ≡ named ++ record { name = name; members = members } ∷ [] → string_bytes name ≡ numbered front (count + 1) → count ≡ length named
    → map named_of after ≡ named_lists front 1 (member_lists (lists ++ members ∷ []))
lists-named front named after lists members name count h e n c =
    let items = λ (v : Vec ℕ Global). v.items in
    let x : ListParts = record { name = name; members = members } in
    let counts : length named ≡ length (member_lists lists) = sym (length-map named named_of) ∙ (ap length h ∙ named-count front 1 (member_lists lists)) in
    let number : count + 1 ≡ 1 + length (member_lists lists) = omega (arith, c, counts) in
    let y : Named = record { name = numbered front (1 + length (member_lists lists)); members = members.items } in
    let seen : named_of x ≡ y = ap (λ (bytes : List ℕ). (let z : Named = record { name = bytes; members = members.items } in z)) (n ∙ ap (numbered front) number) in
    ap (map named_of) e
    ∙ (map-push named_of named x
    ∙ (ap (λ (xs : List Named). xs ++ named_of x ∷ []) h
    ∙ (ap (λ (z : Named). named_lists front 1 (member_lists lists) ++ z ∷ []) seen
    ∙ (sym (named-more front 1 (member_lists lists) members.items)
    ∙ ap (named_lists front 1) (sym (map-push items lists members))))))

pub lists-push : (lists after : List (Vec ℕ Global)) (v : Vec ℕ Global) → after ≡ lists ++ v ∷ [] → member_lists after ≡ member_lists lists ++ v.items ∷ []
lists-push lists after v e = ap member_lists e ∙ map-push (λ (v : Vec ℕ Global). v.items) lists v

-- what is behind the first items grows by one
pub behind-more : {Y : Type 0} (first now next : List Y) (f : ℕ → Y) (a i : ℕ) (y : Y) → now ≡ first ++ map f (numbers_from a i) → next ≡ now ++ y ∷ [] → y ≡ f (a + i) → next ≡ first ++ map f (numbers_from a (i + 1))
behind-more first now next f a i y h e s =
    e ∙ (ap (λ zs. zs ++ y ∷ []) h ∙ (append_assoc first (map f (numbers_from a i)) (y ∷ []) ∙ ap (λ zs. first ++ zs) (ap (λ z. map f (numbers_from a i) ++ z ∷ []) s ∙ sym (mapped-more f a i))))

pub joined-more : {Y : Type 0} (first now next : List Y) (f : ℕ → List Y) (a i : ℕ) (ys : List Y) → now ≡ first ++ flat_map f (numbers_from a i) → next ≡ now ++ ys → ys ≡ f (a + i) → next ≡ first ++ flat_map f (numbers_from a (i + 1))
joined-more first now next f a i ys h e s =
    let last : flat_map f ((a + i) ∷ []) ≡ f (a + i) = append-nil (f (a + i)) in
    let more = ap (flat_map f) (numbers_from-more a i) ∙ (flat_map-append f (numbers_from a i) ((a + i) ∷ []) ∙ ap (λ zs. flat_map f (numbers_from a i) ++ zs) last) in
    e ∙ (ap (λ zs. zs ++ ys) h ∙ (append_assoc first (flat_map f (numbers_from a i)) ys ∙ ap (λ zs. first ++ zs) (ap (λ zs. flat_map f (numbers_from a i) ++ zs) s ∙ sym more)))
