use Rattle.us_gen_pack_building.proofs.levels.+column_terms.Given as goal

abbrev pub decreases-column_terms : goal.decreases-column_terms
decreases-column_terms l = l.number
