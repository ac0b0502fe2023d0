pub mod RaceEnds
