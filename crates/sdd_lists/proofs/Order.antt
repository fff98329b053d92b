-- What comes out of a queue and of a stack, and in which order
use Rattle.std.proofs.Common.{◌≡◌, ℕ, List, [], ◌∷◌, ◌++◌, length, Bool, true, false, refl, sym, ap, ◌∙◌, arith, subst, append_assoc, length-append}
use Rattle.std.specs.Prelude.{if◌then◌else◌}
use Rattle.std.proofs.lemmas.List.{append-nil, reverse-append}
use Rattle.sdd_core.specs.declared.tag.Tag.TheVariants as tag
use Rattle.sdd_world_model.specs.World.{World}
use Rattle.sdd_lists.specs.Ends.{is_spent, through_last}
use Rattle.sdd_lists.specs.Histories.{IsInOrder, IsPartOf, no_more, kept, left_out, IsReversed, QueueHistory, begins, pushes, pops, clears, deletes, others, StackHistory, begins_at, pushes_on, pops_off, drains, deletes_one, others_call, values_of}
use Rattle.sdd_lists.specs.Lists.{Entry, is_deleted, left}
use Rattle.sdd_lists.specs.Queue.{QueueCells}
use Rattle.sdd_lists.proofs.Ends.{both}
use Rattle.sdd_lists.proofs.PoppedLists.{stays-of}

module _ {T : Type 0} where
  part-self : (xs : List T) → IsPartOf xs xs
  part-self [] = no_more
  part-self (x ∷ xs) = kept x xs xs (part-self xs)

  part-front : (zs xs ys : List T) → IsPartOf xs ys → IsPartOf (zs ++ xs) (zs ++ ys)
  part-front [] xs ys part = part
  part-front (z ∷ zs) xs ys part = kept z (zs ++ xs) (zs ++ ys) (part-front zs xs ys part)

  part-back : (xs ys zs : List T) → IsPartOf xs ys → IsPartOf (xs ++ zs) (ys ++ zs)
  part-back xs ys zs no_more = part-self zs
  part-back xs ys zs (kept x us vs part) = kept x (us ++ zs) (vs ++ zs) (part-back us vs zs part)
  part-back xs ys zs (left_out y us vs part) = left_out y (us ++ zs) (vs ++ zs) (part-back us vs zs part)

  part-on : (xs ys zs : List T) → IsPartOf xs ys → IsPartOf ys zs → IsPartOf xs zs
  part-on xs ys zs a no_more = a
  part-on xs ys zs (kept x us vs a) (kept y ws ts b) = kept x us ts (part-on us vs ts a b)
  part-on xs ys zs (left_out x us vs a) (kept y ws ts b) = left_out y us ts (part-on us vs ts a b)
  part-on xs ys zs a (left_out y us vs b) = left_out y xs vs (part-on xs ys vs a b)

  -- something pushed is something
  not-none : (xs : List T) (x : T) → xs ++ x ∷ [] ≡ [] → ⊥
  not-none xs x same = let long : length (xs ++ x ∷ []) ≡ 0 = ap length same in absurd (omega (arith, long, length-append xs (x ∷ [])))

module _ {T : Type 0} where
  pub values-gone : (e : Entry T) (es : List (Entry T)) → is_deleted e ≡ true → values_of (e ∷ es) ≡ values_of es
  values-gone e es is = rw is refl

  pub values-kept : (e : Entry T) (es : List (Entry T)) → is_deleted e ≡ false → values_of (e ∷ es) ≡ e.value ∷ values_of es
  values-kept e es is = rw is refl

  none-spent : (es : List (Entry T)) → is_spent es ≡ true → values_of es ≡ []
  none-spent [] spent = refl
  none-spent (e ∷ es) spent = let all = both e es spent in values-gone e es all.0 ∙ none-spent es all.1

  push-by : (k : ℕ) (x : T) (e : Entry T) (es : List (Entry T)) →
      values_of (through_last es ++ record { slot = k; value = x; tag = tag.None } ∷ []) ≡ values_of es ++ x ∷ [] → (b : Bool) → is_deleted e ≡ b →
      values_of (e ∷ through_last es ++ record { slot = k; value = x; tag = tag.None } ∷ []) ≡ values_of (e ∷ es) ++ x ∷ []
  push-by k x e es more true is =
      let new : Entry T = record { slot = k; value = x; tag = tag.None } in
      values-gone e (through_last es ++ new ∷ []) is ∙ more ∙ ap (λ (vs : List T). vs ++ x ∷ []) (sym (values-gone e es is))
  push-by k x e es more false is =
      let new : Entry T = record { slot = k; value = x; tag = tag.None } in
      values-kept e (through_last es ++ new ∷ []) is ∙ ap (λ (vs : List T). e.value ∷ vs) more
      ∙ ap (λ (vs : List T). vs ++ x ∷ []) (sym (values-kept e es is))

  spent-by : (k : ℕ) (x : T) (e : Entry T) (es : List (Entry T)) →
      values_of (e ∷ through_last es ++ record { slot = k; value = x; tag = tag.None } ∷ []) ≡ values_of (e ∷ es) ++ x ∷ [] → (b : Bool) →
      is_spent (e ∷ es) ≡ b →
      values_of ((if b then [] else e ∷ through_last es) ++ record { slot = k; value = x; tag = tag.None } ∷ []) ≡ values_of (e ∷ es) ++ x ∷ []
  spent-by k x e es more true is = ap (λ (vs : List T). vs ++ x ∷ []) (sym (none-spent (e ∷ es) is))
  spent-by k x e es more false is = more

  -- what a push puts at the end is the last value
  pub values-push : (k : ℕ) (x : T) (es : List (Entry T)) →
      values_of (through_last es ++ record { slot = k; value = x; tag = tag.None } ∷ []) ≡ values_of es ++ x ∷ []
  values-push k x [] = refl
  values-push k x (e ∷ es) = spent-by k x e es (push-by k x e es (values-push k x es) (is_deleted e) refl) (is_spent (e ∷ es)) refl

  left-by : (e : Entry T) (es : List (Entry T)) → values_of (left es) ≡ values_of es → (b : Bool) → is_deleted e ≡ b →
      values_of (if b then left es else e ∷ es) ≡ values_of (e ∷ es)
  left-by e es more true is = more ∙ sym (values-gone e es is)
  left-by e es more false is = refl

  -- letting go of deleted entries leaves the values
  pub values-left : (es : List (Entry T)) → values_of (left es) ≡ values_of es
  values-left [] = refl
  values-left (e ∷ es) = left-by e es (values-left es) (is_deleted e) refl

  -- a pop takes the first value
  values-pop : (es : List (Entry T)) (e : Entry T) (rest : List (Entry T)) → left es ≡ e ∷ rest → is_deleted e ≡ false →
      values_of es ≡ e.value ∷ values_of rest
  values-pop es e rest same stays = sym (values-left es) ∙ ap (λ (xs : List (Entry T)). values_of xs) same ∙ values-kept e rest stays

  values-none : (es : List (Entry T)) → left es ≡ [] → values_of es ≡ []
  values-none es same = sym (values-left es) ∙ ap (λ (xs : List (Entry T)). values_of xs) same

module _ {T : Type 0} (link : T → ℕ) (q : QueueCells) (w : World T) (es : List (Entry T)) where
  -- what a call of another kind makes of the order
  order-as : (ps qs : List T) (d : ℕ) (fs gs : List (Entry T)) (rs : List T) → rs ++ values_of gs ≡ qs ++ values_of fs →
      IsInOrder link es ps qs d fs → IsInOrder link es ps rs d gs
  order-as ps qs d fs gs rs same order = record {
    part = subst (λ (xs : List T). IsPartOf xs (values_of es ++ ps)) (sym same) order.part;
    each = let long = ap length same in omega (arith, long, order.each);
  }

  pub in-order : (ps qs : List T) (d : ℕ) (v : World T) (fs : List (Entry T)) → QueueHistory link q w es ps qs d v fs → IsInOrder link es ps qs d fs
  in-order ps qs d v fs begins = record {
    part = subst (λ (xs : List T). IsPartOf (values_of es) xs) (sym (append-nil (values_of es))) (part-self (values_of es));
    each = omega (arith, length-append (values_of es) []);
  }
  in-order ps qs d v fs (pushes us vs n p k u new gs second x before step) =
      let order = in-order us vs n u gs before in
      let was : List T = values_of gs in
      let there : vs ++ values_of (through_last gs ++ record { slot = k; value = x; tag = tag.None } ∷ []) ≡ (vs ++ was) ++ x ∷ [] =
      ap (λ (ys : List T). vs ++ ys) (values-push k x gs) ∙ sym (append_assoc vs was (x ∷ [])) in
      let here : (values_of es ++ us) ++ x ∷ [] ≡ values_of es ++ (us ++ x ∷ []) = append_assoc (values_of es) us (x ∷ []) in
      let long = ap length there in
      let more = ap length here in
      record {
        part = subst (λ (xs : List T). IsPartOf xs (values_of es ++ (us ++ x ∷ []))) (sym there)
            (subst (λ (xs : List T). IsPartOf ((vs ++ was) ++ x ∷ []) xs) here (part-back (vs ++ was) (values_of es ++ us) (x ∷ []) order.part));
        each = omega (arith, long, more, order.each, length-append (vs ++ was) (x ∷ []), length-append (values_of es ++ us) (x ∷ []));
      }
  in-order ps qs d v fs (pops us vs n p u new gs rest second e owner before same step) =
      order-as us vs n gs rest (vs ++ e.value ∷ [])
      (append_assoc vs (e.value ∷ []) (values_of rest)
      ∙ ap (λ (ys : List T). vs ++ ys) (sym (values-pop gs e rest same (stays-of gs e rest same)))) (in-order us vs n u gs before)
  in-order ps qs d v fs (clears us vs n p u new gs second before step) =
      order-as us vs n gs [] vs (ap (λ (ys : List T). vs ++ ys) (sym (values-none gs step.none))) (in-order us vs n u gs before)
  in-order ps qs d v fs (deletes us vs n u new gs hs second before queue loses) =
      let order = in-order us vs n u gs before in
      record {
        part = part-on (vs ++ values_of hs) (vs ++ values_of gs) (values_of es ++ us) (part-front vs (values_of hs) (values_of gs) loses.part) order.part;
        each = omega (arith, order.each, loses.one, length-append vs (values_of hs), length-append vs (values_of gs));
      }
  in-order ps qs d v fs (others us vs n u new gs hs second before queue same) =
      order-as us vs n gs hs vs (ap (λ (ys : List T). vs ++ ys) same) (in-order us vs n u gs before)

module _ {T : Type 0} (link : T → ℕ) (c : ℕ) (w : World T) (es : List (Entry T)) where
  -- a call that leaves the values
  reversed-as : (ps qs : List T) (d : ℕ) (fs gs : List (Entry T)) → values_of gs ≡ values_of fs → IsReversed link es ps qs d fs → IsReversed link es ps qs d gs
  reversed-as ps qs d fs gs same back = record {
    pushing = λ none few. same ∙ back.pushing none few;
    popping = λ none few. back.popping none few ∙ ap (λ (ys : List T). qs ++ ys) (sym same);
    each = let long = ap length same in omega (arith, long, back.each);
  }

  pub reversed : (ps qs : List T) (d : ℕ) (v : World T) (fs : List (Entry T)) → StackHistory link c w es ps qs d v fs → IsReversed link es ps qs d fs
  reversed ps qs d v fs begins_at = record { pushing = λ none few. refl; popping = λ none few. refl; each = omega arith }
  reversed ps qs d v fs (pushes_on us vs n p k u new gs x before step) =
      let back = reversed us vs n u gs before in
      let top : values_of (record { slot = k; value = x; tag = tag.None } ∷ left gs) ≡ x ∷ values_of gs =
      ap (λ (ys : List T). x ∷ ys) (values-left gs) in
      let long = ap length top in
      record {
        pushing = λ none few.
            top ∙ ap (λ (ys : List T). x ∷ ys) (back.pushing none few)
            ∙ ap (λ (ys : List T). ys ++ values_of es) (sym (reverse-append us (x ∷ [])));
        popping = λ none few. absurd (not-none us x none);
        each = omega (arith, long, back.each, length-append us (x ∷ []));
      }
  reversed ps qs d v fs (pops_off us vs n p u new gs rest e owner before same step) =
      let back = reversed us vs n u gs before in
      let took = values-pop gs e rest same (stays-of gs e rest same) in
      let long = ap length took in
      record {
        pushing = λ none few. absurd (not-none vs e.value none);
        popping = λ none few.
            back.popping none few ∙ ap (λ (ys : List T). vs ++ ys) took ∙ sym (append_assoc vs (e.value ∷ []) (values_of rest));
        each = omega (arith, long, back.each, length-append vs (e.value ∷ []));
      }
  reversed ps qs d v fs (drains us vs n p u new gs before step) =
      reversed-as us vs n gs [] (sym (values-none gs step.none)) (reversed us vs n u gs before)
  reversed ps qs d v fs (deletes_one us vs n u new gs hs before list loses) =
      let back = reversed us vs n u gs before in
      record {
        pushing = λ none few. absurd (omega (arith, few));
        popping = λ none few. absurd (omega (arith, few));
        each = omega (arith, back.each, loses.one);
      }
  reversed ps qs d v fs (others_call us vs n u new gs hs before list same) = reversed-as us vs n gs hs same (reversed us vs n u gs before)
