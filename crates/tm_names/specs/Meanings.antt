-- What the code's meanings are as plain data.
use Rattle.tm_syntax.specs.Scopes.Declared as text
use Rattle.tm_names.specs.Sorts.{sort_of}
use Rattle.tm_names.specs.declared.names.meaning.Meaning.{Meaning}
use Rattle.tm_names.specs.declared.names.meaning.Meaning.TheVariants.{Unknown, Misplaced, Unclear, Means}

-- a meaning
abbrev pub meaning_of : Meaning → text.Meaning
meaning_of (Unknown name) = text.unknown name.now
meaning_of (Misplaced name) = text.misplaced name.now
meaning_of Unclear = text.unclear
meaning_of (Means name sort) = text.means name.now (sort_of sort)
