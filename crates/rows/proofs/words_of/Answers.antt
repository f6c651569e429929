-- The part is cut out at its places.
use Rattle.rows.proofs.Parts.{part_cut}
use Rattle.rows.proofs.words_of.Goals as goal

pub returns-clause-result_value : goal.returns-clause-result_value
returns-clause-result_value c = part_cut _ _ _ _ c.places_of-places.ensures.start c.places_of-places.ensures.end
