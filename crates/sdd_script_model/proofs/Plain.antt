-- Lists of entries none of which is marked or deleted
use Rattle.sdd_script_model.proofs.Words.{◌≡◌, ℕ, List, [], ◌∷◌, ◌++◌, false, refl, ap, ◌∙◌, if◌then◌else◌, Tag, World, appended, end_of, is_spent, through_last, Entry, is_deleting, trimmed, ArePlain, Val, link_of}
use Rattle.sdd_core.specs.declared.tag.Tag.TheVariants.{None as no_tag}

pub plain-last : (es : List (Entry Val)) (e : Entry Val) → ArePlain es → e.tag ≡ no_tag → ArePlain (es ++ e ∷ [])
plain-last [] e all last = (last, tt)
plain-last (x ∷ xs) e all last = (all.0, plain-last xs e all.1 last)

unspent : (e : Entry Val) (es : List (Entry Val)) → e.tag ≡ no_tag → is_spent (e ∷ es) ≡ false
unspent e es plain = ap (λ (t : Tag). if is_deleting t then is_spent es else false) plain

-- so each stays
pub through-plain : (es : List (Entry Val)) → ArePlain es → through_last es ≡ es
through-plain [] all = refl
through-plain (e ∷ es) all =
    ap (λ b. if b then [] else e ∷ through_last es) (unspent e es all.0) ∙ ap (λ (xs : List (Entry Val)). e ∷ xs) (through-plain es all.1)

end-plain : (c : ℕ) (t : Tag) (es : List (Entry Val)) → ArePlain es → (end_of link_of c t es).behind ≡ []
end-plain c t [] all = refl
end-plain c t (e ∷ es) all =
    ap (λ b. (if b then record { cell = c; tag = t; behind = e ∷ es } else end_of link_of (link_of e.value) e.tag es).behind) (unspent e es all.0)
    ∙ end-plain (link_of e.value) e.tag es all.1

-- and no item stands otherwise where one is put behind them
pub appended-plain : (w : World Val) (p c : ℕ) (t : Tag) (es : List (Entry Val)) (l k : ℕ) → ArePlain es →
    (appended link_of w p c t es l k).standings ≡ w.standings
appended-plain w p c t es l k all =
    let at = end_of link_of c t es in
    ap (λ (xs : List (Entry Val)). (trimmed link_of w p at.cell at.tag xs).standings) (end-plain c t es all)
