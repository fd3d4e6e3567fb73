pub mod PartsInTurn
