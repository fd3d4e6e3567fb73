pub mod HornerLoop
pub mod PowerTurns
