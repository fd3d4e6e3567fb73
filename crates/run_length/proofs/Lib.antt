mod PowerOfOne
mod MarkSum
mod MarkTable
mod MeetingSearch
mod RowTable
mod RowSum
mod GreatSteps
