-- An opening is noted with the participant of a name
use Rattle.sdd_interpreter.proofs.Words.{◌≡◌, ℕ, ◌<◌, List, Option, Some, None, map, length, slice_index_or, slice_set, sym, ap, ◌∙◌, option_map, get_or-map, map-set, OpenSince, open_since, NamedParticipant, get_or_default, opened_since}

-- the outermost opening of a participant that is there is noted
pub renoted : (places : List (Option NamedParticipant)) (n since : ℕ) (a : NamedParticipant) (x : Option NamedParticipant) → n < length places → x ≡ Some a →
    x ≡ slice_index_or places n x → map open_since (slice_set places n (Some (record a { since = since }))) ≡ opened_since (map open_since places) n since
renoted places n since a x lt is there =
    let entry : slice_index_or (map open_since places) n None ≡ open_since (Some a) =
    get_or-map open_since places n None ∙ ap open_since (get_or_default places n None x lt ∙ sym there ∙ is) in
    map-set open_since places n (Some (record a { since = since }))
    ∙ ap (λ o. slice_set (map open_since places) n (option_map (λ (y : OpenSince). record y { since = since }) o)) (sym entry)
