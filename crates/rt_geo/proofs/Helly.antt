-- Half-planes of which every three share a point share one (Helly 1923). A point is given by whole numbers (x, y, w), w
-- above 0: it stands at (x / w, y / w).
use Rattle.std.specs.Prelude.{◌*ℤ◌, neg_ℤ, unsigned_abs}
use Rattle.std.specs.List.{AllByRecursion}
use Rattle.std.proofs.Common.{◌≡◌, ◌≢◌, ◌∙◌, ◌⊎◌, ap, sym, refl, subst, arith, inl, inr, ℕ, zero, suc, ◌*◌}
use Rattle.std.proofs.Common.{ℤ, pos, negsuc, ◌≤ℤ◌, ◌+ℤ◌, ◌-ℤ◌, List, [], ◌∷◌}
use Rattle.std.proofs.Math.IntN.{*ℤ_comm}
use Rattle.std.proofs.lemmas.Int.{ints, by_lt_z, unsigned_abs-mul}
use Rattle.std.proofs.lemmas.Nat.{mul-le}
use Rattle.rt_geo.specs.Lemmas.Products.{mul-difference, mul-neg, mul-sum, mul_assoc, sign_kept}

-- ---- products

swapped : (a m b : ℤ) → a *ℤ (m *ℤ b) ≡ m *ℤ (a *ℤ b)
swapped a m b = sym (mul_assoc a m b) ∙ ap (λ x. x *ℤ b) (*ℤ_comm a m) ∙ mul_assoc m a b

pub negated : (a b : ℤ) → neg_ℤ a *ℤ b ≡ neg_ℤ (b *ℤ a)
negated a b = *ℤ_comm (neg_ℤ a) b ∙ mul-neg b a

times_zero : (a b : ℤ) → b ≡ pos 0 → a *ℤ b ≡ pos 0
times_zero a b e =
    let z = mul-difference a (pos 0) (pos 0) in
    let s = ap (λ t. a *ℤ t) e in
    omega (arith, ints, z, s)

pub product_low : (a b : ℤ) → pos 0 ≤ℤ a → pos 0 ≤ℤ b → pos 0 ≤ℤ (a *ℤ b)
product_low (pos m) (pos n) p q = omega (arith, ints)
product_low (pos m) (negsuc n) p q = absurd (omega (arith, ints, q))
product_low (negsuc m) b p q = absurd (omega (arith, ints, p))

product_some : (a b : ℤ) → pos 1 ≤ℤ a → pos 1 ≤ℤ b → pos 1 ≤ℤ (a *ℤ b)
product_some (pos m) (pos n) p q =
    omega (arith, ints, mul-le 1 1 m n (omega (arith, ints, p)) (omega (arith, ints, q)))
product_some (pos m) (negsuc n) p q = absurd (omega (arith, ints, q))
product_some (negsuc m) b p q = absurd (omega (arith, ints, p))

-- a factor above 0 goes
factor_low : (w x : ℤ) → pos 1 ≤ℤ w → pos 0 ≤ℤ (w *ℤ x) → pos 0 ≤ℤ x
factor_low (pos zero) x some h = absurd (omega (arith, ints, some))
factor_low (pos (suc m)) x some h = sign_kept m x h
factor_low (negsuc m) x some h = absurd (omega (arith, ints, some))

-- and one that isn't 0
zero_of : (d x : ℤ) (m n : ℕ) → unsigned_abs d ≡ suc m → unsigned_abs x ≡ n → suc m * n ≡ 0 → x ≡ pos 0
zero_of d x m zero some is none = omega (arith, ints, is)
zero_of d x m (suc n) some is none =
    absurd (omega (arith, none, mul-le 1 1 (suc m) (suc n) (omega arith) (omega arith)))

factor_zero : (d x : ℤ) → d ≢ pos 0 → d *ℤ x ≡ pos 0 → x ≡ pos 0
factor_zero (pos zero) x other h = absurd (other refl)
factor_zero (pos (suc m)) x other h =
    zero_of (pos (suc m)) x m (unsigned_abs x) refl refl (sym (unsigned_abs-mul (pos (suc m)) x) ∙ ap unsigned_abs h)
factor_zero (negsuc m) x other h =
    zero_of (negsuc m) x m (unsigned_abs x) refl refl (sym (unsigned_abs-mul (negsuc m) x) ∙ ap unsigned_abs h)

-- ---- points and half-planes

pub record Vector : Type 0 where
  pub x : ℤ
  pub y : ℤ
  pub w : ℤ

-- a point p is in the half-plane f where this isn't below 0
abbrev pub dot : Vector → Vector → ℤ
dot f p = f.x *ℤ p.x +ℤ f.y *ℤ p.y +ℤ f.w *ℤ p.w

-- m times p and n times q
abbrev mix : ℤ → Vector → ℤ → Vector → Vector
mix m p n q = record {
  x = m *ℤ p.x +ℤ n *ℤ q.x;
  y = m *ℤ p.y +ℤ n *ℤ q.y;
  w = m *ℤ p.w +ℤ n *ℤ q.w;
}

part-mix : (f m a n b : ℤ) → f *ℤ (m *ℤ a +ℤ n *ℤ b) ≡ m *ℤ (f *ℤ a) +ℤ n *ℤ (f *ℤ b)
part-mix f m a n b =
    mul-sum f (m *ℤ a) (n *ℤ b) ∙ ap (λ t. t +ℤ f *ℤ (n *ℤ b)) (swapped f m a)
    ∙ ap (λ t. m *ℤ (f *ℤ a) +ℤ t) (swapped f n b)

sum-of_three : (m a b c : ℤ) → m *ℤ (a +ℤ b +ℤ c) ≡ m *ℤ a +ℤ m *ℤ b +ℤ m *ℤ c
sum-of_three m a b c = mul-sum m (a +ℤ b) c ∙ ap (λ t. t +ℤ m *ℤ c) (mul-sum m a b)

dot-mix : (f p q : Vector) (m n : ℤ) → dot f (mix m p n q) ≡ m *ℤ dot f p +ℤ n *ℤ dot f q
dot-mix f p q m n =
    let x = part-mix f.x m p.x n q.x in
    let y = part-mix f.y m p.y n q.y in
    let w = part-mix f.w m p.w n q.w in
    let of_p = sum-of_three m (f.x *ℤ p.x) (f.y *ℤ p.y) (f.w *ℤ p.w) in
    let of_q = sum-of_three n (f.x *ℤ q.x) (f.y *ℤ q.y) (f.w *ℤ q.w) in
    omega (arith, ints, x, y, w, of_p, of_q)

-- between a point that isn't in a half-plane and one that is there is one on its line
abbrev between : Vector → Vector → Vector → Vector
between f p q = mix (dot f q) p (neg_ℤ (dot f p)) q

record IsBetween (f p q m : Vector) : Type 0 where
  some : pos 1 ≤ℤ m.w
  on : dot f m ≡ pos 0
  -- it is in each half-plane in which both are, and on each line on which both are
  in_both : (h : Vector) → pos 0 ≤ℤ dot h p → pos 0 ≤ℤ dot h q → pos 0 ≤ℤ dot h m
  on_both : (h : Vector) → dot h p ≡ pos 0 → dot h q ≡ pos 0 → dot h m ≡ pos 0

is_between : (f p q : Vector) → dot f p ≤ℤ negsuc 0 → pos 0 ≤ℤ dot f q → pos 1 ≤ℤ p.w → pos 1 ≤ℤ q.w
    → IsBetween f p q (between f p q)
is_between f p q out in_f p_some q_some =
    let m = dot f q in
    let n = neg_ℤ (dot f p) in
    let n_some : pos 1 ≤ℤ n = omega (arith, ints, out) in
    let n_low : pos 0 ≤ℤ n = omega (arith, ints, out) in
    record {
      some = omega (arith, ints, product_low m p.w in_f (omega (arith, ints, p_some)), product_some n q.w n_some q_some);
      on = omega (arith, ints, dot-mix f p q m n, negated (dot f p) m);
      in_both = λ h a b. omega
          (arith, ints, dot-mix h p q m n, product_low m (dot h p) in_f a, product_low n (dot h q) n_low b);
      on_both = λ h a b. omega (arith, ints, dot-mix h p q m n, times_zero m (dot h p) a, times_zero n (dot h q) b);
    }

-- ---- two lines that cross

-- the way from one point to another, and how far it leads to the left of a line
abbrev way : Vector → Vector → Vector
way p q = mix q.w p (neg_ℤ p.w) q

dot-way : (f p q : Vector) → f.x *ℤ (way p q).x +ℤ f.y *ℤ (way p q).y ≡ q.w *ℤ dot f p -ℤ p.w *ℤ dot f q
dot-way f p q =
    let flat : (way p q).w ≡ pos 0 = omega (arith, ints, negated p.w q.w) in
    omega (
      arith,
      ints,
      dot-mix f p q q.w (neg_ℤ p.w),
      times_zero f.w (way p q).w flat,
      negated p.w (dot f q),
      *ℤ_comm (dot f q) p.w,
    )

way-on : (f p q : Vector) → dot f p ≡ pos 0 → dot f q ≡ pos 0 → f.x *ℤ (way p q).x +ℤ f.y *ℤ (way p q).y ≡ pos 0
way-on f p q a b = omega (arith, ints, dot-way f p q, times_zero q.w (dot f p) a, times_zero p.w (dot f q) b)

way-out : (f p q : Vector) → dot f p ≤ℤ negsuc 0 → pos 0 ≤ℤ dot f q → pos 1 ≤ℤ p.w → pos 1 ≤ℤ q.w
    → f.x *ℤ (way p q).x +ℤ f.y *ℤ (way p q).y ≢ pos 0
way-out f p q out in_f p_some q_some none =
    let a = product_some q.w (neg_ℤ (dot f p)) q_some (omega (arith, ints, out)) in
    let b = product_low p.w (dot f q) (omega (arith, ints, p_some)) in_f in
    omega (arith, ints, none, dot-way f p q, a, mul-neg q.w (dot f p), b)

-- Cramer's rule
cramer : (a b c e x y : ℤ) → (a *ℤ e -ℤ b *ℤ c) *ℤ x ≡ e *ℤ (a *ℤ x +ℤ b *ℤ y) -ℤ b *ℤ (c *ℤ x +ℤ e *ℤ y)
cramer a b c e x y =
    let left = *ℤ_comm (a *ℤ e -ℤ b *ℤ c) x ∙ mul-difference x (a *ℤ e) (b *ℤ c) in
    let ax = swapped e a x ∙ ap (λ t. a *ℤ t) (*ℤ_comm e x) ∙ swapped a x e in
    let cx = sym (mul_assoc b c x) ∙ *ℤ_comm (b *ℤ c) x in
    omega (arith, ints, left, mul-sum e (a *ℤ x) (b *ℤ y), mul-sum b (c *ℤ x) (e *ℤ y), ax, cx, swapped e b y)

solved : (a b c e x y : ℤ) → a *ℤ e -ℤ b *ℤ c ≢ pos 0 → a *ℤ x +ℤ b *ℤ y ≡ pos 0 → c *ℤ x +ℤ e *ℤ y ≡ pos 0
    → (x ≡ pos 0) × (y ≡ pos 0)
solved a b c e x y other p q =
    let p' : b *ℤ y +ℤ a *ℤ x ≡ pos 0 = omega (arith, ints, p) in
    let q' : e *ℤ y +ℤ c *ℤ x ≡ pos 0 = omega (arith, ints, q) in
    let turned : e *ℤ a -ℤ c *ℤ b ≡ a *ℤ e -ℤ b *ℤ c = omega (arith, ints, *ℤ_comm e a, *ℤ_comm c b) in (
      factor_zero (a *ℤ e -ℤ b *ℤ c) x other
          (omega (arith, ints, cramer a b c e x y, times_zero e _ p, times_zero b _ q)),
      factor_zero (e *ℤ a -ℤ c *ℤ b) y (λ z. other (sym turned ∙ z))
          (omega (arith, ints, cramer e c b a y x, times_zero a _ q', times_zero c _ p')),
    )

-- of the points on both lines one is as good as another
one_crossing : (f g h t u : Vector) → f.x *ℤ g.y -ℤ f.y *ℤ g.x ≢ pos 0 → dot f t ≡ pos 0 → dot f u ≡ pos 0
    → dot g t ≡ pos 0 → dot g u ≡ pos 0 → pos 1 ≤ℤ t.w → pos 1 ≤ℤ u.w → pos 0 ≤ℤ dot h u → pos 0 ≤ℤ dot h t
one_crossing f g h t u cross f_t f_u g_t g_u t_some u_some h_u =
    let none = solved f.x f.y g.x g.y (way t u).x (way t u).y cross (way-on f t u f_t f_u) (way-on g t u g_t g_u) in
    let x = times_zero h.x (way t u).x none.0 in
    let y = times_zero h.y (way t u).y none.1 in
    let a = product_low t.w (dot h u) (omega (arith, ints, t_some)) h_u in
    factor_low u.w (dot h t) u_some (omega (arith, ints, dot-way h t u, x, y, a))

-- a line with points on both sides of another crosses it, if it has two sides itself: otherwise it has no direction
crosses : (f g s r k q : Vector) → dot f s ≡ pos 0 → dot f r ≡ pos 0 → dot g s ≤ℤ negsuc 0 → pos 0 ≤ℤ dot g r
    → pos 1 ≤ℤ s.w → pos 1 ≤ℤ r.w → f.x *ℤ (way k q).x +ℤ f.y *ℤ (way k q).y ≢ pos 0
    → f.x *ℤ g.y -ℤ f.y *ℤ g.x ≢ pos 0
crosses f g s r k q f_s f_r g_s g_r s_some r_some sides none =
    let v = way s r in
    let out = way-out g s r g_s g_r s_some r_some in
    let n = mul-neg v.x g.x in
    let gx = *ℤ_comm v.x g.x in
    let gy = *ℤ_comm v.y g.y in
    let along = way-on f s r f_s f_r in
    let zero = solved v.x v.y g.y (neg_ℤ g.x) f.x f.y
    (λ z. out (omega (arith, ints, z, n, gx, gy)))
    (omega (arith, ints, along, *ℤ_comm v.x f.x, *ℤ_comm v.y f.y))
    (omega (arith, ints, none, *ℤ_comm g.y f.x, negated g.x f.y)) in
    let x = *ℤ_comm f.x (way k q).x ∙ times_zero (way k q).x f.x zero.0 in
    let y = *ℤ_comm f.y (way k q).y ∙ times_zero (way k q).y f.y zero.1 in
    sides (omega (arith, ints, x, y))

-- ---- Helly's theorem

abbrev pub Among : {X : Type 0} → List X → X → Type 0
Among [] x = ⊥
Among (y ∷ ys) x = (x ≡ y) ⊎ Among ys x

pub all_at : {X : Type 0} (P : X → Type 0) (xs : List X) (x : X) → AllByRecursion P xs → Among xs x → P x
all_at P [] x h i = absurd i
all_at P (y ∷ ys) x h (inl e) = subst P (sym e) h.0
all_at P (y ∷ ys) x h (inr i) = all_at P ys x h.1 i

all_from : {X : Type 0} (P : X → Type 0) (xs : List X) → ((x : X) → Among xs x → P x) → AllByRecursion P xs
all_from P [] h = tt
all_from P (x ∷ xs) h = (h x (inl refl), all_from P xs (λ y i. h y (inr i)))

abbrev pub IsIn : Vector → Vector → Type 0
IsIn p f = pos 0 ≤ℤ dot f p

-- a point of all these half-planes
abbrev pub IsShared : List Vector → Vector → Type 0
IsShared fs p = (pos 1 ≤ℤ p.w) × AllByRecursion (IsIn p) fs

-- on a line with two sides, half-planes of which every two share a point share one
line : (f k q : Vector) → dot f k ≤ℤ negsuc 0 → pos 0 ≤ℤ dot f q → pos 1 ≤ℤ k.w → pos 1 ≤ℤ q.w → (gs : List Vector)
    → ((g h : Vector) → Among gs g → Among gs h → (p : Vector) × ((dot f p ≡ pos 0) × IsShared (g ∷ h ∷ []) p))
    → (p : Vector) × ((dot f p ≡ pos 0) × IsShared gs p)
line f k q f_k f_q k_some q_some [] pairs =
    let m = is_between f k q f_k f_q k_some q_some in (between f k q, (m.on, (m.some, tt)))
line f k q f_k f_q k_some q_some (g ∷ gs) pairs =
    let rest = line f k q f_k f_q k_some q_some gs (λ g' h i j. pairs g' h (inr i) (inr j)) in
    let s = rest.0 in
    let f_s = rest.1.0 in
    let s_some = rest.1.1.0 in
    by_lt_z (dot g s) (pos 0)
    (λ below.
    let out : dot g s ≤ℤ negsuc 0 = omega (arith, ints, below) in
    let r = pairs g g (inl refl) (inl refl) in
    let t = is_between g s r.0 out r.1.1.1.0 s_some r.1.1.0 in
    let f_t = t.on_both f f_s r.1.0 in
    let cross = crosses f g s r.0 k q f_s r.1.0 out r.1.1.1.0 s_some r.1.1.0 (way-out f k q f_k f_q k_some q_some) in (
      between g s r.0,
      (
        f_t,
        (
          t.some,
          (
            omega (arith, ints, t.on),
            all_from (IsIn (between g s r.0)) gs (λ h j.
                let o = pairs g h (inl refl) (inr j) in
                let u = is_between g s o.0 out o.1.1.1.0 s_some o.1.1.0 in
                one_crossing f g h (between g s r.0) (between g s o.0) cross f_t (u.on_both f f_s o.1.0) t.on u.on t.some u.some
                (u.in_both h (all_at (IsIn s) gs h rest.1.1.1 j) o.1.1.1.1.0)),
          ),
        ),
      ),
    ))
    (λ above. (s, (f_s, (s_some, (omega (arith, ints, above), rest.1.1.1)))))

-- in the plane, half-planes of which every three share a point share one
pub helly : (fs : List Vector)
    → ((f g h : Vector) → Among fs f → Among fs g → Among fs h → (p : Vector) × IsShared (f ∷ g ∷ h ∷ []) p)
    → (p : Vector) × IsShared fs p
helly [] triples = (record { x = pos 0; y = pos 0; w = pos 1 }, (omega (arith, ints), tt))
helly (f ∷ fs) triples =
    let rest = helly fs (λ g h i a b c. triples g h i (inr a) (inr b) (inr c)) in
    let k = rest.0 in
    by_lt_z (dot f k) (pos 0)
    (λ below.
    let out : dot f k ≤ℤ negsuc 0 = omega (arith, ints, below) in
    let q = triples f f f (inl refl) (inl refl) (inl refl) in
    let found = line f k q.0 out q.1.1.0 rest.1.0 q.1.0 fs (λ g h i j.
    let p = triples f g h (inl refl) (inr i) (inr j) in
    let m = is_between f k p.0 out p.1.1.0 rest.1.0 p.1.0 in (
      between f k p.0,
      (
        m.on,
        (
          m.some,
          (
            m.in_both g (all_at (IsIn k) fs g rest.1.1 i) p.1.1.1.0,
            (m.in_both h (all_at (IsIn k) fs h rest.1.1 j) p.1.1.1.1.0, tt),
          ),
        ),
      ),
    )) in
    (found.0, (found.1.1.0, (omega (arith, ints, found.1.0), found.1.1.1))))
    (λ above. (k, (rest.1.0, (omega (arith, ints, above), rest.1.1))))
