-- Outcomes of calls and tests: what an accepted sequence of rows has passed. Assumes nothing.
use mathlib.Core.Path.{◌≡◌, refl, sym, ap, subst}
use mathlib.Core.Logic.{◌⊎◌, inl, inr}
use Prim.Native.Nat.{ℕ}
use mathlib.Core.Bool.{Bool, true, false, not, cond, ◌&&◌, ◌||◌}
use lib.Dec.{T}
use Rattle.model.specs.Result.{Result, ok, refuse, ◌>>=◌, need}

-- ---- outcomes

abbrev is_ok : {A : Type 0} → Result A → Type 0
is_ok (ok a) = Unit {0}
is_ok (refuse n p) = ⊥

pub refuse≢ok : {X : Type 0} {A : Type 0} {n p : ℕ} {a : A} → ◌≡◌ {A = Result A} (refuse n p) (ok a) → X
refuse≢ok {A = A} e = absurd (subst (λ (r : Result A). is_ok r) (sym e) tt)

abbrev value : {A : Type 0} → A → Result A → A
value d (ok a) = a
value d (refuse n p) = d

pub ok_inj : {A : Type 0} {a b : A} → ◌≡◌ {A = Result A} (ok a) (ok b) → a ≡ b
ok_inj {A} {a} e = ap (value a) e

-- an accepted sequence: its first step was accepted, and so was the rest
pub bind_ok : {A B : Type 0} (m : Result A) (f : A → Result B) {b : B} → (m >>= f) ≡ ok b → (a : A) × (m ≡ ok a) × (f a ≡ ok b)
unfolding ◌>>=◌
bind_ok (ok a) f e = (a, refl, e)
bind_ok (refuse n p) f e = refuse≢ok e

-- a step that gave a value, and what follows
pub bind_eq : {A B : Type 0} (m : Result A) (f : A → Result B) (a : A) → m ≡ ok a → (m >>= f) ≡ f a
unfolding ◌>>=◌
bind_eq m f a e = ap (λ (r : Result _). r >>= f) e

pub bind_refused : {A B : Type 0} (m : Result A) (f : A → Result B) (n p : ℕ) → m ≡ refuse n p → (m >>= f) ≡ refuse n p
unfolding ◌>>=◌
bind_refused m f n p e = ap (λ (r : Result _). r >>= f) e

-- two steps, one after the other
pub bind_assoc : {A B C : Type 0} (m : Result A) (f : A → Result B) (g : B → Result C) → ((m >>= f) >>= g) ≡ (m >>= λ a. f a >>= g)
unfolding ◌>>=◌
bind_assoc (ok a) f g = refl
bind_assoc (refuse n p) f g = refl

pub bind_same : {A B : Type 0} (m : Result A) (f g : A → Result B) → ((a : A) → m ≡ ok a → f a ≡ g a) → (m >>= f) ≡ (m >>= g)
unfolding ◌>>=◌
bind_same (ok a) f g h = h a refl
bind_same (refuse n p) f g h = refl

pub bind_itself : {A : Type 0} (m : Result A) → (m >>= ok) ≡ m
unfolding ◌>>=◌
bind_itself (ok a) = refl
bind_itself (refuse n p) = refl

pub need-ok : (b : Bool) (n p : ℕ) {u : Unit {0}} → need b n p ≡ ok u → T b
unfolding need
need-ok true n p e = tt
need-ok false n p e = refuse≢ok e

pub need_yes : (b : Bool) (n p : ℕ) → T b → need b n p ≡ ok tt
unfolding need
need_yes true n p t = refl
need_yes false n p t = absurd t

pub need_no : (b : Bool) (n p : ℕ) → T (not b) → need b n p ≡ refuse n p
unfolding need
need_no true n p t = absurd t
need_no false n p t = refl

-- a row passed in an accepted sequence, and the rest
pub past : {B : Type 0} (t : Bool) (n p : ℕ) (f : Unit {0} → Result B) {b : B} → (need t n p >>= f) ≡ ok b → T t × (f tt ≡ ok b)
unfolding need ◌>>=◌
past true n p f e = (tt, e)
past false n p f e = refuse≢ok e

-- a row that is passed
pub pass : {B : Type 0} (t : Bool) (n p : ℕ) (f : Unit {0} → Result B) → T t → (need t n p >>= f) ≡ f tt
pass t n p f h = bind_eq (need t n p) f tt (need_yes t n p h)

-- ---- tests

pub T_eq : (b : Bool) → T b → b ≡ true
T_eq true t = refl
T_eq false t = absurd t

pub F_eq : (b : Bool) → T (not b) → b ≡ false
F_eq true t = absurd t
F_eq false t = refl

pub and_T : (a b : Bool) → T (a && b) → T a × T b
and_T true b t = (tt, t)
and_T false b t = absurd t

pub T_and : (a b : Bool) → T a → T b → T (a && b)
T_and true b s t = t
T_and false b s t = absurd s

pub or_T : (a b : Bool) → T (a || b) → T a ⊎ T b
or_T true b t = inl tt
or_T false b t = inr t

pub T_or_left : (a b : Bool) → T a → T (a || b)
T_or_left true b t = tt
T_or_left false b t = absurd t

pub T_or_right : (a b : Bool) → T b → T (a || b)
T_or_right true b t = tt
T_or_right false b t = t

pub test : (b : Bool) → T b ⊎ T (not b)
test true = inl tt
test false = inr tt

-- a test decides: what holds of both branches holds of the choice
pub by_test {ℓ κ} : {A : Type ℓ} (b : Bool) {x y : A} (P : A → Type κ) → (T b → P x) → (T (not b) → P y) → P (cond b x y)
by_test true P f g = f tt
by_test false P f g = g tt

pub cond_T : {X : Type 0} (b : Bool) (x y : X) → T b → cond b x y ≡ x
cond_T true x y t = refl
cond_T false x y t = absurd t

pub cond_F : {X : Type 0} (b : Bool) (x y : X) → T (not b) → cond b x y ≡ y
cond_F true x y t = absurd t
cond_F false x y t = refl
