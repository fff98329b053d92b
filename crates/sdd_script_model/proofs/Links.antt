-- What values hold: what a body does, and a link
use Rattle.sdd_script_model.proofs.Words.{◌≡◌, inl, inr, ℕ, ◌+◌, Some, None, slice_index_or, slice_set, refl, sym, ap, ◌∙◌, arith, ◌==◌, nat_tests, entry_at, without_entry, CellContents, Claim, right_to, claims, one, World, value_at, held_in, cell_closed, spilled, once_if, Val, holdings_of, body_of, link_of, owner_in, Sheds, common_steps}
use Rattle.sdd_core.specs.declared.tag.Tag.TheVariants.{None as no_tag}
use Rattle.sdd_script_model.proofs.Entry.{set-where}

-- each value that is there was there, but for a number
abbrev pub HoldsLess : World Val → World Val → Type 0
HoldsLess old new = (s : ℕ) (x : Val) → value_at new s ≡ Some x →
    (y : Val) × (value_at old s ≡ Some y) × (link_of x ≡ link_of y) × (owner_in (body_of x) ≡ owner_in (body_of y))

pub less-same : (old new : World Val) → new.values ≡ old.values → HoldsLess old new
less-same old new same s x e = (x, ap (λ vs. slice_index_or vs s None) (sym same) ∙ e, refl, refl)

pub less-then : (u v w : World Val) → HoldsLess u v → HoldsLess v w → HoldsLess u w
less-then u v w a b s x e =
    let mid = b s x e in
    let was = a s mid.0 mid.1 in
    (was.0, was.1, mid.2 ∙ was.2, mid.3 ∙ was.3)

pub less-shed : {old new : World Val} → Sheds old new → HoldsLess old new
less-shed shed s x e = (x, (let was = shed.values s in grind arith), refl, refl)

-- one value is another, with the same link and the same owner
pub less-edited : (w : World Val) (k : ℕ) (was now : Val) → value_at w k ≡ Some was → link_of now ≡ link_of was →
    owner_in (body_of now) ≡ owner_in (body_of was) →
    HoldsLess w (record w { values = slice_set w.values k (Some now) })
less-edited w k was now there link body s x e = elim (set-where w.values k s (Some now) None) [
  | inl here ↦
      (let both : Some now ≡ Some x = sym here.1 ∙ e in
      let is : now ≡ x = cc in
      (was, ap (value_at w) here.0 ∙ there, ap link_of (sym is) ∙ link, ap (λ v. owner_in (body_of v)) (sym is) ∙ body))
  | inr same ↦ (x, sym same ∙ e, refl, refl)
]

-- ---- links

-- a cell that holds nothing
abbrev pub null : CellContents
null = record { held = None; tag = no_tag }

-- a value holds what its body does, and the right to its link
pub holds-so : (v : Val) (u : Claim) → claims (holdings_of v) u ≡ claims (owner_in (body_of v)) u + one (right_to (link_of v)) u
holds-so v u = grind (arith, common_steps)

pub same-once : (c : ℕ) → once_if (c == c) ≡ 1
same-once c = grind (arith, nat_tests)

-- ---- what is given up

-- a cell that holds nothing is closed
pub closed-bare : {T : Type 0} (w : World T) (p c : ℕ) → held_in (entry_at w.cells c) ≡ None →
    cell_closed w p c ≡ record w { cells = without_entry w.cells c }
closed-bare w p c none = ap (spilled (record w { cells = without_entry w.cells c }) p) none
