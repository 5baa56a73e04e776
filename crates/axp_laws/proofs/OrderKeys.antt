-- Laws of the order.
use Rattle.std.proofs.Common.{◌⊎◌, ◌≡◌, ℕ, ◌<◌, ◌≤◌, Bool, true, false, ◌&&◌, eqb, refl, sym, ap, ◌∙◌, arith, inl, inr, ⊎_elim}
use Rattle.std.specs.declared.cmp.Ordering.{Ordering}
use Rattle.std.specs.declared.cmp.Ordering.TheVariants.{Less, Equal, Greater}
use Rattle.std.specs.Ordering.{ordering_then, nat_cmp, bool_cmp, is_lt, ordering_reverse}
use Rattle.std.specs.Cmp.{IsTotalOrder, nat_cmp_total, bool_cmp_total}
use Rattle.std.proofs.lemmas.Cmp.{on_total, then_total}
use Rattle.std.proofs.lemmas.Bool.{cases_Bool, and_parts, and_from, cases_lt, lt-ltb, le-ltb, eqb-true, false≢true}
use Rattle.axp_access.specs.Order.{Key, key_cmp, key_before}

pub keys_total : IsTotalOrder key_cmp
keys_total = then_total (on_total (λ k. k.spot.last) bool_cmp_total) (then_total (on_total (λ k. k.spot.place) nat_cmp_total) (then_total (on_total (λ k. k.other) bool_cmp_total) (then_total (on_total (λ k. k.cpu) nat_cmp_total) (on_total (λ k. k.number) nat_cmp_total))))

flip_lt : (o p : Ordering) → o ≡ ordering_reverse p → is_lt o ≡ true → is_lt p ≡ false
flip_lt o Less e h = let never : is_lt o ≡ false = ap is_lt e in cc
flip_lt o Equal e h = refl
flip_lt o Greater e h = refl

lt_less : (o : Ordering) → is_lt o ≡ true → o ≡ Less
lt_less Less h = refl
lt_less Equal h = cc
lt_less Greater h = cc

nat_cmp_refl : (n : ℕ) → nat_cmp n n ≡ Equal
nat_cmp_refl n = grind arith

none_right : (a : Bool) → (a && false) ≡ false
none_right true = refl
none_right false = refl

pub before_asymmetric : (a b : Key) → key_before a b ≡ true → key_before b a ≡ false
unfolding key_before
before_asymmetric a b h =
    let never : is_lt (key_cmp b a) ≡ false = flip_lt (key_cmp a b) (key_cmp b a) (keys_total.antisymm a b) (and_parts (a.spot.placed && b.spot.placed) (is_lt (key_cmp a b)) h).1 in
    rw never (none_right (b.spot.placed && a.spot.placed))

pub before_transitive : (a b c : Key) → key_before a b ≡ true → key_before b c ≡ true → key_before a c ≡ true
unfolding key_before
before_transitive a b c h k =
    let x = and_parts (a.spot.placed && b.spot.placed) (is_lt (key_cmp a b)) h in
    let y = and_parts (b.spot.placed && c.spot.placed) (is_lt (key_cmp b c)) k in
    and_from (a.spot.placed && c.spot.placed) (is_lt (key_cmp a c)) (and_from a.spot.placed c.spot.placed (and_parts a.spot.placed b.spot.placed x.0).0 (and_parts b.spot.placed c.spot.placed y.0).1) (ap is_lt (keys_total.trans a b c (lt_less (key_cmp a b) x.1) (lt_less (key_cmp b c) y.1)))

-- the key of an access at place t, and of one that is last of all
abbrev pub at_key : ℕ → Bool → ℕ → ℕ → Key
at_key t o c n = record { spot = record { placed = true; last = false; place = t }; other = o; cpu = c; number = n }

abbrev pub last_key : Bool → ℕ → ℕ → Key
last_key o c n = record { spot = record { placed = true; last = true; place = 0 }; other = o; cpu = c; number = n }

pub at_less : (t s c d n m : ℕ) (o q : Bool) → t < s → key_before (at_key t o c n) (at_key s q d m) ≡ true
unfolding key_before
at_less t s c d n m o q less = rw (lt-ltb t s less) refl

pub at_last : (t c d n m : ℕ) (o q : Bool) → key_before (at_key t o c n) (last_key q d m) ≡ true
unfolding key_before
at_last t c d n m o q = refl

-- not later in place, of one processor, and the later one no write
pub at_upto : (t s c n m : ℕ) (o : Bool) → t ≤ s → n < m → key_before (at_key t o c n) (at_key s true c m) ≡ true
unfolding key_before
at_upto t s c n m true less later = ⊎_elim (λ lt. rw (lt-ltb t s lt) refl) (λ ge. let same : s ≡ t = omega arith in rw same (rw (nat_cmp_refl t, nat_cmp_refl c, lt-ltb n m later) refl)) (cases_lt t s)
at_upto t s c n m false less later = ⊎_elim (λ lt. rw (lt-ltb t s lt) refl) (λ ge. let same : s ≡ t = omega arith in rw same (rw (nat_cmp_refl t) refl)) (cases_lt t s)

-- at one place, alike
pub at_same : (t c n m : ℕ) (o : Bool) → n < m → key_before (at_key t o c n) (at_key t o c m) ≡ true
unfolding key_before
at_same t c n m true later = rw (nat_cmp_refl t, nat_cmp_refl c, lt-ltb n m later) refl
at_same t c n m false later = rw (nat_cmp_refl t, nat_cmp_refl c, lt-ltb n m later) refl

pub last_last : (c n m : ℕ) (o : Bool) → n < m → key_before (last_key o c n) (last_key o c m) ≡ true
unfolding key_before
last_last c n m true later = rw (nat_cmp_refl c, lt-ltb n m later) refl
last_last c n m false later = rw (nat_cmp_refl c, lt-ltb n m later) refl

pub before_irreflexive : (a : Key) → key_before a a ≡ false
before_irreflexive a = ⊎_elim (λ (t : key_before a a ≡ true). absurd (false≢true (sym (before_asymmetric a a t) ∙ t))) (λ (f : key_before a a ≡ false). f) (cases_Bool (key_before a a))

pub before_placed : (a b : Key) → key_before a b ≡ true → (a.spot.placed ≡ true) × (b.spot.placed ≡ true)
unfolding key_before
before_placed a b h = and_parts a.spot.placed b.spot.placed (and_parts (a.spot.placed && b.spot.placed) (is_lt (key_cmp a b)) h).0

then_equal : (o p : Ordering) → ordering_then o p ≡ Equal → (o ≡ Equal) × (p ≡ Equal)
then_equal Less p e = cc
then_equal Equal p e = (refl, e)
then_equal Greater p e = cc

nat_cmp_equal : (m n : ℕ) → nat_cmp m n ≡ Equal → m ≡ n
nat_cmp_equal m n e =
    ⊎_elim
    (λ (lt : m < n). let never : Less ≡ Equal = rw (lt-ltb m n lt) at e in cc)
    (λ (ge : n ≤ m). ⊎_elim
    (λ (same : eqb m n ≡ true). eqb-true m n same)
    (λ (other : eqb m n ≡ false). let never : Greater ≡ Equal = rw (le-ltb m n (omega arith), other) at e in cc)
    (cases_Bool (eqb m n)))
    (cases_lt m n)

-- keys that compare as equal are of one access
equal_keys : (a b : Key) → key_cmp a b ≡ Equal → (a.cpu ≡ b.cpu) × (a.number ≡ b.number)
equal_keys a b e =
    let last = then_equal (bool_cmp a.spot.last b.spot.last) (ordering_then (nat_cmp a.spot.place b.spot.place) (ordering_then (bool_cmp a.other b.other) (ordering_then (nat_cmp a.cpu b.cpu) (nat_cmp a.number b.number)))) e in
    let place = then_equal (nat_cmp a.spot.place b.spot.place) (ordering_then (bool_cmp a.other b.other) (ordering_then (nat_cmp a.cpu b.cpu) (nat_cmp a.number b.number))) last.1 in
    let other = then_equal (bool_cmp a.other b.other) (ordering_then (nat_cmp a.cpu b.cpu) (nat_cmp a.number b.number)) place.1 in
    let cpu = then_equal (nat_cmp a.cpu b.cpu) (nat_cmp a.number b.number) other.1 in
    (nat_cmp_equal a.cpu b.cpu cpu.0, nat_cmp_equal a.number b.number cpu.1)

pub before_total : (a b : Key) → a.spot.placed ≡ true → b.spot.placed ≡ true → (a.cpu ≡ b.cpu → a.number ≡ b.number → ⊥) → (key_before a b ≡ true) ⊎ (key_before b a ≡ true)
unfolding key_before
before_total a b placed also apart = by_order (key_cmp a b) refl where
  by_order : (o : Ordering) → key_cmp a b ≡ o → (((a.spot.placed && b.spot.placed) && is_lt (key_cmp a b)) ≡ true) ⊎ (((b.spot.placed && a.spot.placed) && is_lt (key_cmp b a)) ≡ true)
  by_order Less e = inl (rw (placed, also) (ap is_lt e))
  by_order Equal e = let same = equal_keys a b e in absurd (apart same.0 same.1)
  by_order Greater e = inr (rw (also, placed) (ap is_lt (keys_total.antisymm b a ∙ ap ordering_reverse e)))
