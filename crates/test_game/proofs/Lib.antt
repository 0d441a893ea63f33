mod ExampleFacts
mod Known
mod LevelSets
