-- The tree of a sound design of a text is a checked one.
use Rattle.tm_syntax.specs.Design.{DesignTree}
use Rattle.tm_syntax.specs.Faults.{IsTyped, IsOfText, IsSound}

pub checked : (d : DesignTree) → IsSound d → IsOfText d.spec → IsTyped d.spec
checked d sound of = record {
  of_text = of;
  known = sound.known;
  once = sound.once;
  matching = sound.matching;
  fitting = sound.fitting;
  no_call_cycle = sound.no_call_cycle;
  crossing = sound.crossing;
  atomic = sound.atomic;
}
